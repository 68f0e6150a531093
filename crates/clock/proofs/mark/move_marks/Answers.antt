use Rattle.std.proofs.Common.{None, sym, ap, ◌∙◌, arith}
use mathlib.Core.List.{map-map}
use Rattle.clock.specs.Meaning.{clock_with, one_tick_less}
use Rattle.clock.specs.Marks.{count_after, until_mark}
use Rattle.terms.proofs.Replaced.{replaced_more, replaced_all}
use Rattle.clock.proofs.mark.move_marks.Goals as goal

pub loop-mark-preserved : goal.loop-mark-preserved
loop-mark-preserved c =
    replaced_more (λ m. one_tick_less (until_mark c.args.count m)) (until_mark (count_after c.args.count 1)) _ c.loop-mark.marks c.loop-mark.mark-index
    c.loop-mark.invariant None _ (omega arith) c.mark_after_tick.ensures

pub returns : goal.returns
returns c =
    ap clock_with
    (replaced_all (λ m. one_tick_less (until_mark c.args.count m)) (until_mark (count_after c.args.count 1)) _ c.loop-mark.marks c.loop-mark.mark-index
    c.loop-mark.invariant (omega arith)
    ∙ sym (map-map one_tick_less (until_mark c.args.count) c.args.marks.now))
