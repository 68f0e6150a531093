use Rattle.std.proofs.Common.{◌≡◌, ◌++◌, map, take, drop}
use Rattle.host_by_place.specs.Places.{without}
use Rattle.host_by_place.proofs.places.methods.vacate_all.Given as goal

abbrev pub invariant-loop-place : goal.invariant-loop-place
invariant-loop-place l =
    map (λ p. p) (take l.place-index l.places) ++ map (without l.call) (drop l.place-index l.places) ≡ map (without l.call) l.initial.places
