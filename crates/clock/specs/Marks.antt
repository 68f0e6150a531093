-- Times kept as marks: the count at which a number runs out, on a count of 32 bits that goes round.
use Rattle.std.specs.Prelude.{ℕ, ◌+◌, ◌-◌, ◌%◌, ◌^◌, List, map, Some, None, Option}
use Rattle.clock.specs.Meaning.{ClockMeaning, clock_with}

-- the count after so many ticks
abbrev pub count_after : ℕ → ℕ → ℕ
count_after count k = (count + k) % 2 ^ 32

-- how many ticks bring the count to the mark: from one to the other, round at 2 ^ 32
abbrev pub ticks_between : ℕ → ℕ → ℕ
ticks_between count mark = (mark + (2 ^ 32 - count)) % 2 ^ 32

-- the ticks left of a number with this mark; none where it is stopped
abbrev pub until_mark : ℕ → Option ℕ → Option ℕ
until_mark count (Some mark) = Some (ticks_between count mark)
until_mark count None = None

-- the clock that a count and the marks of the numbers stand for
abbrev pub timed_by : ℕ → List (Option ℕ) → ClockMeaning
timed_by count marks = clock_with (map (until_mark count) marks)
