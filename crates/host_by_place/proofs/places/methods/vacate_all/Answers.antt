use Rattle.std.proofs.Common.{None, sym, ◌∙◌, arith}
use Rattle.std.proofs.lemmas.List.{map-id}
use Rattle.terms.proofs.Replaced.{replaced_more, replaced_all}
use Rattle.host_by_place.specs.Places.{without}
use Rattle.host_by_place.proofs.places.methods.vacate_all.Goals as goal

pub loop-place-preserved : goal.loop-place-preserved
loop-place-preserved c =
    replaced_more (without c.args.call) (λ p. p) _ c.loop-place.places c.loop-place.place-index c.loop-place.invariant None _ (omega arith)
    c.vacated.ensures

pub returns : goal.returns
returns c =
    sym (map-id c.loop-place.places)
    ∙ replaced_all (without c.args.call) (λ p. p) _ c.loop-place.places c.loop-place.place-index c.loop-place.invariant (omega arith)
