use Rattle.std.proofs.Common.{sym, subst}
use Rattle.host_by_place.specs.Places.{Kept}
use Rattle.host_by_place.proofs.Seats.{kept_without}
use Rattle.host_by_place.proofs.places.Places.give_back.Goals as goal

pub invariant_of-self : goal.invariant_of-self
invariant_of-self c =
    let x = c.args.self.now in
    record { kept = subst (Kept x.total) (sym c.vacate_all.ensures) (kept_without x.total x.calls x.kept c.args.call) }
