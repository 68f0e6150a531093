-- What a clock holds: for each number that it times the ticks left, or that it is stopped.
use Rattle.std.specs.Prelude.{◌≡◌, ℕ, ◌-◌, Bool, true, if◌then◌else◌, IsTrue, List, map, length, replicate, Some, None, Option, nat_le, slice_index_or, slice_set}
use Rattle.std.specs.List.{list_all}
use Rattle.terms.specs.Ranges.{within}

-- the numbers that a clock times are those below this
abbrev pub timer_count : ℕ
timer_count = 64

-- the most ticks that a number is set to
abbrev pub longest_time : ℕ
longest_time = 6000

-- of each number in turn the ticks left; none where it is stopped
pub record ClockMeaning : Type 0 where
  pub timers : List (Option ℕ)

-- the clock with these ticks left
abbrev pub clock_with : List (Option ℕ) → ClockMeaning
clock_with times = record { timers = times }

-- the ticks left of a number; none where it is stopped or never timed
abbrev pub ticks_left : ClockMeaning → ℕ → Option ℕ
ticks_left c n = slice_index_or c.timers n None

-- no number runs
abbrev pub all_stopped : ClockMeaning
all_stopped = clock_with (replicate timer_count None)

-- the clock with one number changed
abbrev pub changing : ClockMeaning → ℕ → Option ℕ → ClockMeaning
changing c n time = clock_with (slice_set c.timers n time)

-- whether a number can be set to so many ticks
abbrev pub is_time : ℕ → Bool
is_time k = within 1 longest_time k

-- a number set to so many ticks; 0, or more than the longest time, has no effect
abbrev pub setting : ClockMeaning → ℕ → ℕ → ClockMeaning
setting c n k = if is_time k then changing c n (Some k) else c

-- a number stopped
abbrev pub stopping : ClockMeaning → ℕ → ClockMeaning
stopping c n = changing c n None

-- what is left of a number when a tick has passed: 0 stays 0
abbrev pub one_tick_less : Option ℕ → Option ℕ
one_tick_less (Some k) = Some (k - 1)
one_tick_less None = None

-- a tick has passed for every number
abbrev pub passing : ClockMeaning → ClockMeaning
passing c = clock_with (map one_tick_less c.timers)

-- whether a number is stopped, or has no more ticks left than it can be set to
abbrev pub in_time : Option ℕ → Bool
in_time (Some k) = nat_le k longest_time
in_time None = true

-- every number is there, and is in time
abbrev pub ClockRanges : ClockMeaning → Type 0
ClockRanges c = (length c.timers ≡ timer_count) × IsTrue (list_all in_time c.timers)
