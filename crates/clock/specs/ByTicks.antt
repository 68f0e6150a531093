-- What a `CountdownClock` stands for.
use Rattle.clock.specs.Meaning.{ClockMeaning, clock_with}
use Rattle.clock.specs.declared.countdown.CountdownClock.{CountdownClock}

abbrev pub by_ticks : CountdownClock → ClockMeaning
by_ticks c = clock_with c.left
