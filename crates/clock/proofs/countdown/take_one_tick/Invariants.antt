use Rattle.std.proofs.Common.{◌≡◌, ◌++◌, map, take, drop}
use Rattle.clock.specs.Meaning.{one_tick_less}
use Rattle.clock.proofs.countdown.take_one_tick.Given as goal

abbrev pub invariant-loop-time : goal.invariant-loop-time
invariant-loop-time l =
    map (λ t. t) (take l.time-index l.times) ++ map one_tick_less (drop l.time-index l.times) ≡ map one_tick_less l.initial.times
