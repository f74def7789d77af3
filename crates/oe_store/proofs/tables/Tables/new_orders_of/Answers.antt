use Rattle.std.proofs.Common.{◌∙◌}
use Rattle.oe_store.proofs.GroupFacts.{new_orders_between}
use Rattle.oe_store.proofs.SoundFacts.{new_order_numbered}
use Rattle.oe_store.proofs.tables.Tables.new_orders_of.Goals as goal

pub returns : goal.returns
returns c = rw (← c.self.view_is)
    (c.range_inclusive.ensures ∙ rw (c.least.ensures, c.greatest.ensures)
    (new_orders_between _ c.args.district _ _ (λ k h. new_order_numbered _ k c.self.invariant h)))
