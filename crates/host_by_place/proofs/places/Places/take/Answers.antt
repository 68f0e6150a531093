use Rattle.std.proofs.Common.{sym}
use Rattle.host_by_place.proofs.Seats.{kept_taken}
use Rattle.host_by_place.proofs.places.Places.take.Goals as goal

pub invariant_of-self : goal.invariant_of-self
invariant_of-self c =
    let x = c.args.self.now in
    record { kept = kept_taken x.total x.calls x.kept c.args.call c.in-Some.place (sym c.in-Some.ensures) c.requires }
