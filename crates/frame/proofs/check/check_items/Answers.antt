use Rattle.frame.proofs.Spelling.{items_checked}
use Rattle.frame.proofs.check.check_items.Goals as goal

pub returns : goal.returns
returns c = items_checked _ _ _ _ _ _ c.as_slice-items.ensures.items c.as_slice-items.ensures.few c.is_empty.ensures c.ask.ensures c.in_ok-ask.was c.check_distinct.ensures
