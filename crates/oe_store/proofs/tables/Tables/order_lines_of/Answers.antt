use Rattle.std.proofs.Common.{◌∙◌}
use Rattle.oe_store.proofs.GroupFacts.{lines_between}
use Rattle.oe_store.proofs.SoundFacts.{order_line_numbered}
use Rattle.oe_store.proofs.tables.Tables.order_lines_of.Goals as goal

pub returns : goal.returns
returns c = rw (← c.self.view_is)
    (c.range_inclusive.ensures ∙ rw (c.least.ensures, c.greatest.ensures)
    (lines_between _ c.args.order _ _ (λ k h. (order_line_numbered _ k c.self.invariant h).1)))
