use Rattle.std.proofs.Common.{◌∙◌}
use Rattle.oe_store.proofs.GroupFacts.{recent_between}
use Rattle.oe_store.proofs.SoundFacts.{order_line_numbered}
use Rattle.oe_store.proofs.tables.Tables.recent_lines.Goals as goal

pub returns : goal.returns
returns c = rw (← c.self.view_is)
    (c.range_inclusive.ensures ∙ rw (c.least.ensures, c.greatest.ensures)
    (recent_between _ c.args.district c.args.next c.first_recent.result c.order_before.result _ _
    c.first_recent.ensures.least c.first_recent.ensures.span c.order_before.ensures
    (λ k h. ((order_line_numbered _ k c.self.invariant h).0.0, (order_line_numbered _ k c.self.invariant h).1))))
