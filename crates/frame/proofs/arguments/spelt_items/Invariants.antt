use Rattle.std.proofs.Common.{◌≡◌, ◌+◌, ◌*◌, ◌++◌, length}
use Rattle.std.specs.List.{list_all}
use Rattle.terms.specs.ShortLists.{elements}
use Rattle.frame.specs.Items.{item_bytes, spelt, is_item}
use Rattle.frame.proofs.arguments.spelt_items.Given as goal

abbrev pub invariant-loop-numbers : goal.invariant-loop-numbers
invariant-loop-numbers l = record {
  read : item_bytes (elements l.items) ++ l.rest ≡ l.bytes;
  left : list_all is_item (spelt l.rest) ≡ list_all is_item (spelt l.bytes);
  size : 2 * length (elements l.items) + length l.rest ≡ length l.bytes;
}

abbrev pub decreases-loop-numbers : goal.decreases-loop-numbers
decreases-loop-numbers l = length l.rest
