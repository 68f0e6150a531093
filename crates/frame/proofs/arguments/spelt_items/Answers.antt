use Rattle.std.proofs.Common.{◌≡◌, [], ◌∷◌, ◌++◌, get_or, length, ap, arith, rules, length-append}
use Rattle.terms.specs.Points.{point_number}
use Rattle.terms.specs.ShortLists.{elements}
use Rattle.frame.specs.Items.{mode_number}
use Rattle.frame.proofs.Spelling.{read_more, left_more}
use Rattle.frame.proofs.arguments.spelt_items.Goals as goal

pub loop-numbers-preserved : goal.loop-numbers-preserved
loop-numbers-preserved c =
    let two = c.in-Some.ensures.cases in
    let x = c.in_ok-item.item in
    let pushed : elements c.push.new.self ≡ elements c.loop-numbers.items ++ x ∷ [] = search rules in
    let p : point_number x.point ≡ get_or c.in-Some.numbers.now 0 0 = search rules in
    let m : mode_number x.mode ≡ get_or c.in-Some.numbers.now 1 0 = search rules in
    record {
      read = read_more _ _ _ _ _ _ _ two.0 two.1 two.2 pushed p m c.loop-numbers.invariant.read;
      left = left_more c.args.bytes.now c.loop-numbers.rest.now _ c.in-Some.others.now _ _ _ two.0 two.1 two.2 pushed p m c.loop-numbers.invariant.left;
      size = omega (arith, two.2, ap length pushed, length-append (elements c.loop-numbers.items) (x ∷ []), c.loop-numbers.invariant.size);
    }
