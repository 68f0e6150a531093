use Rattle.std.proofs.Common.{◌||◌, sym, ap, ◌∙◌}
use Rattle.frame.specs.Items.{item_bytes, spelt, some_twice}
use Rattle.frame.proofs.Points.{twice_from}
use Rattle.frame.proofs.check.some_twice.Goals as goal

pub returns-then-has_point : goal.returns-then-has_point
returns-then-has_point c =
    let h = twice_from _ _ _ c.in-Some.ensures.cases.0 _ c.has_point.ensures in
    sym (sym c.loop-item.invariant ∙ h ∙ ap (λ b. b || some_twice (spelt (item_bytes c.in-Some.others.now))) c.if-has_point.true)

pub loop-item-preserved : goal.loop-item-preserved
loop-item-preserved c =
    let h = twice_from _ _ _ c.in-Some.ensures.cases.0 _ c.has_point.ensures in
    sym (sym c.loop-item.invariant ∙ h ∙ ap (λ b. b || some_twice (spelt (item_bytes c.in-Some.others.now))) c.if-has_point.false)
