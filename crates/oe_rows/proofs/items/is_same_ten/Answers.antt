use Rattle.oe_rows.proofs.ListFacts.{texts_decides}
use Rattle.oe_rows.proofs.items.is_same_ten.Goals as goal

pub returns : goal.returns
returns c = rw c.eq.ensures (texts_decides _ _)
