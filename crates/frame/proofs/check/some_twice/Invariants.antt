use Rattle.std.proofs.Common.{◌≡◌, length}
use Rattle.frame.specs.Items.{item_bytes, spelt, some_twice}
use Rattle.frame.proofs.check.some_twice.Given as goal

abbrev pub invariant-loop-item : goal.invariant-loop-item
invariant-loop-item l = some_twice (spelt (item_bytes l.rest)) ≡ some_twice (spelt (item_bytes l.items))

abbrev pub decreases-loop-item : goal.decreases-loop-item
decreases-loop-item l = length l.rest
