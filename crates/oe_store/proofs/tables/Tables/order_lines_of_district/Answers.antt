use Rattle.std.proofs.Common.{◌∙◌}
use Rattle.oe_store.proofs.GroupFacts.{lines_of_district_between}
use Rattle.oe_store.proofs.SoundFacts.{order_line_numbered}
use Rattle.oe_store.proofs.tables.Tables.order_lines_of_district.Goals as goal

pub returns : goal.returns
returns c = rw (← c.self.view_is)
    (c.range_inclusive.ensures ∙ rw (c.least.ensures, c.least-2.ensures, c.greatest.ensures, c.greatest-2.ensures)
    (lines_of_district_between _ c.args.district _ _ _ _ (λ k h. order_line_numbered _ k c.self.invariant h)))
