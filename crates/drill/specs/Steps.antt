-- What a step does to a host and a clock, whichever they are.
use Rattle.std.specs.Prelude.{ℕ, Bool, true, if◌then◌else◌}
use Rattle.clock.specs.Meaning.{ClockMeaning, setting, stopping, passing}
use Rattle.host.specs.Meaning.{HostMeaning, can_join, holding, joining, letting_go}
use Rattle.host.specs.declared.order.Order.TheVariants as O
use Rattle.host.specs.declared.place.Place.{Place}
use Rattle.host.specs.declared.place.Place.TheVariants.{Port, Circuit}
use Rattle.drill.specs.declared.step.Step.{Step}
use Rattle.drill.specs.declared.step.Step.TheVariants.{Hold, Join, LetGo, Tick}

-- the ticks that a call is given: held, and on a place
abbrev pub held_time : ℕ
held_time = 3

abbrev pub place_time : Place → ℕ
place_time Port = 4
place_time Circuit = 6

abbrev pub is_done : HostMeaning → Step → Bool
is_done h (Hold call) = true
is_done h (Join call place) = can_join h call place
is_done h (LetGo call) = true
is_done h Tick = true

abbrev pub host_after : HostMeaning → Step → HostMeaning
host_after h (Hold call) = holding h call
host_after h (Join call place) = joining h call place O.Resource
host_after h (LetGo call) = letting_go h call O.Continue
host_after h Tick = h

abbrev pub clock_after : HostMeaning → ClockMeaning → Step → ClockMeaning
clock_after h c (Hold call) = setting c call held_time
clock_after h c (Join call place) = if can_join h call place then setting c call (place_time place) else c
clock_after h c (LetGo call) = stopping c call
clock_after h c Tick = passing c
