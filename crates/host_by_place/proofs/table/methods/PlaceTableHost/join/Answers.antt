use Rattle.std.proofs.Common.{Some, sym, ◌∙◌, arith}
use Rattle.std.proofs.lemmas.Bool.{cond-true, cond-false}
use Rattle.host_by_place.proofs.Moved.{on_one, took}
use Rattle.host_by_place.proofs.Standing.{held_in_range, held_nowhere, joins, moved, moved_apart, moved_long, stays, stays_apart}
use Rattle.host_by_place.proofs.table.methods.PlaceTableHost.join.Goals as goal

pub take-requires : goal.take-requires
take-requires c = held_in_range c.args.self.now c.args.call c.if-not-is_held.ensures

pub invariant_of-self : goal.invariant_of-self
invariant_of-self c =
    let x = c.args.self.now in
    let t = c.if-not-take.ensures in
    record { whole = x.whole; apart = stays_apart x c.args.call c.args.place _ t.said t.after }

pub returns-then-not-take : goal.returns-then-not-take
returns-then-not-take c =
    let x = c.args.self.now in
    let t = c.if-not-take.ensures in
    let said = joins x c.args.call c.if-not-is_held.ensures c.args.place t.said in
    record { said = said; after = stays x c.args.call c.args.place _ t.said t.after ∙ sym (cond-false _ _ _ (sym said)) }

pub invariant_of-self-2 : goal.invariant_of-self-2
invariant_of-self-2 c =
    let x = c.args.self.now in
    let t = c.if-not-take.ensures in
    let z = held_nowhere x c.args.call c.if-not-is_held.ensures in
    let m = took x.places c.take.new.self c.args.call c.args.place z.0 z.1 t.said t.after in
    record {
      whole = moved_long x c.args.call (Some c.args.place) _ _ _ m c.put.ensures;
      apart = moved_apart x c.args.call (Some c.args.place) _ _ _ m c.put.ensures (omega (arith, on_one (Some c.args.place)));
    }

pub returns : goal.returns
returns c =
    let x = c.args.self.now in
    let t = c.if-not-take.ensures in
    let z = held_nowhere x c.args.call c.if-not-is_held.ensures in
    let m = took x.places c.take.new.self c.args.call c.args.place z.0 z.1 t.said t.after in
    let said = joins x c.args.call c.if-not-is_held.ensures c.args.place t.said in
    record { said = said; after = moved x c.args.call (Some c.args.place) _ _ _ m c.put.ensures ∙ sym (cond-true _ _ _ (sym said)) }
