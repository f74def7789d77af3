use Rattle.std.proofs.Common.{ap, ◌∙◌}
use Rattle.oe_rows.specs.declared.districts.District.{District}
use Rattle.oe_model.specs.Changes.{rows_after, UpdateDistrict}
use Rattle.oe_store.specs.Places.{rows}
use Rattle.oe_store.specs.contracts.tables.Tables.{the_view}
use Rattle.oe_store.proofs.ColumnFacts.{on_row, row_was, same_row, IsLeft, district_left}
use Rattle.oe_store.proofs.tables.Tables.set_district_ytd.Goals as goal

abbrev set : goal.After-self-1 → District → District
set c x = record x { ytd = c.args.ytd }

left : (c : goal.After-self-1) → IsLeft (UpdateDistrict c.args.key.now (set c c.unwrap-district.result.now))
    (the_view c.self.inside)
    (record (the_view c.self.inside) { districts = c.row_mut.follows.lender (set c c.unwrap-district.result.now) })
left c =
    district_left (the_view c.self.inside) (c.row_mut.follows.lender (set c c.unwrap-district.result.now))
    c.args.key.now (set c c.unwrap-district.result.now) c.unwrap-district.result.now
    (on_row c.row_mut.result c.unwrap-district.result c.unwrap-district.ensures
    (c.row_mut.follows.holds (set c c.unwrap-district.result.now)))
    (row_was c.row_mut.result c.unwrap-district.result c.unwrap-district.ensures _ c.row_mut.ensures.row)
    c.self.invariant

pub invariant_of-self : goal.invariant_of-self
invariant_of-self c = (left c).sound

pub returns-clause-rows : goal.returns-clause-rows
returns-clause-rows c =
    rw (← c.self.view_is)
    (λ x found. (left c).rows
    ∙ ap (λ y. rows_after (UpdateDistrict c.args.key.now (set c y)) (rows (the_view c.self.inside)))
    (same_row c.row_mut.result c.unwrap-district.result c.unwrap-district.ensures _ x c.row_mut.ensures.row found))

pub returns-clause-places : goal.returns-clause-places
returns-clause-places c = rw (← c.self.view_is) (left c).places
