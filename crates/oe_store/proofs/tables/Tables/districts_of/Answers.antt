use Rattle.std.proofs.Common.{◌∙◌}
use Rattle.oe_store.proofs.GroupFacts.{districts_between}
use Rattle.oe_store.proofs.SoundFacts.{district_numbered}
use Rattle.oe_store.proofs.tables.Tables.districts_of.Goals as goal

pub returns : goal.returns
returns c = rw (← c.self.view_is)
    (c.range_inclusive.ensures ∙ rw (c.least.ensures, c.greatest.ensures)
    (districts_between _ c.args.warehouse _ _ (λ k h. district_numbered _ k c.self.invariant h)))
