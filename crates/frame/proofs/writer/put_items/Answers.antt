use Rattle.std.proofs.Common.{arith}
use Rattle.frame.proofs.Put.{put_more}
use Rattle.frame.proofs.writer.put_items.Goals as goal

pub loop-item-preserved : goal.loop-item-preserved
loop-item-preserved c =
    let k = c.loop-item.invariant in
    record {
      cursor = omega (arith, k.cursor);
      written = put_more c.args.items.now c.args.out.now c.loop-item.out c.loop-item.item-index c.loop-item.n _ _ (omega arith) k.cursor (omega (arith, k.cursor)) k.written c.from.ensures c.from-in-loop-item.ensures;
    }
