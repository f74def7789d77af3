use Rattle.oe_index.proofs.ListFacts.{lists-none}
use Rattle.oe_index.proofs.lists.Lists.new.Goals as goal

pub invariant_of-result : goal.invariant_of-result
invariant_of-result g c = lists-none g.K.Ord.cmp c.new.result.items c.new.ensures.items
