use Rattle.std.proofs.Common.{None, arith}
use Rattle.host_by_place.proofs.Moved.{left}
use Rattle.host_by_place.proofs.Standing.{moved, moved_apart, moved_long}
use Rattle.host_by_place.proofs.Seats.{at_most_one}
use Rattle.host_by_place.proofs.table.PlaceTable.set_aside.Goals as goal

pub invariant_of-self : goal.invariant_of-self
invariant_of-self c =
    let x = c.args.self.now in
    let m = left x.places c.give_back.new.self c.args.call c.give_back.ensures in
    record {
      whole = moved_long x c.args.call None c.args.entry _ _ m c.put.ensures;
      apart = moved_apart x c.args.call None c.args.entry _ _ m c.put.ensures (omega (arith, at_most_one c.args.entry.held));
    }

pub returns : goal.returns
returns c =
    let x = c.args.self.now in
    moved x c.args.call None c.args.entry _ _ (left x.places c.give_back.new.self c.args.call c.give_back.ensures) c.put.ensures
