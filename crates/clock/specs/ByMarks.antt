-- What a `MarkClock` stands for.
use Rattle.clock.specs.Meaning.{ClockMeaning}
use Rattle.clock.specs.Marks.{timed_by}
use Rattle.clock.specs.declared.mark.MarkClock.{MarkClock}

abbrev pub by_marks : MarkClock → ClockMeaning
by_marks c = timed_by c.count c.marks
