use Rattle.std.proofs.Common.{◌∙◌}
use Rattle.oe_store.proofs.GroupFacts.{customers_between}
use Rattle.oe_store.proofs.SoundFacts.{customer_numbered}
use Rattle.oe_store.proofs.tables.Tables.customers_of.Goals as goal

pub returns : goal.returns
returns c = rw (← c.self.view_is)
    (c.range_inclusive.ensures ∙ rw (c.least.ensures, c.greatest.ensures)
    (customers_between _ c.args.district _ _ (λ k h. customer_numbered _ k c.self.invariant h)))
