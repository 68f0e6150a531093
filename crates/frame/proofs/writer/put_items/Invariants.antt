use Rattle.std.proofs.Common.{◌≡◌, ◌*◌, ◌++◌, take, drop}
use Rattle.frame.specs.Items.{item_bytes}
use Rattle.frame.proofs.writer.put_items.Given as goal

abbrev pub invariant-loop-item : goal.invariant-loop-item
invariant-loop-item l = record {
  cursor : l.n ≡ 2 * l.item-index;
  written : l.out ≡ item_bytes (take l.item-index l.items) ++ drop l.n l.initial.out;
}
