use Rattle.std.proofs.Common.{Some}
use Rattle.oe_model.specs.Changes.{ChangedDistrict}
use Rattle.oe_store.specs.contracts.tables.Tables.{the_view}
use Rattle.oe_store.proofs.ColumnFacts.{on_row, row_was}
use Rattle.oe_store.proofs.BackFacts.{IsBack, district_back}
use Rattle.oe_store.proofs.tables.Tables.put_back_district_columns.Goals as goal

left : (c : goal.After-self-1) → IsBack (ChangedDistrict c.args.key (Some c.args.columns)) (the_view c.self.inside)
    (record (the_view c.self.inside) { districts = c.row_mut.follows.lender c.put_on.new.row })
left c =
    district_back (the_view c.self.inside) (c.row_mut.follows.lender c.put_on.new.row) c.args.key c.args.columns
    c.unwrap-district.result.now c.put_on.new.row
    (on_row c.row_mut.result c.unwrap-district.result c.unwrap-district.ensures
    (c.row_mut.follows.holds c.put_on.new.row)) c.put_on.ensures
    (row_was c.row_mut.result c.unwrap-district.result c.unwrap-district.ensures _ c.row_mut.ensures.row)
    (rw (← c.self.view_is) at c.requires.schema) c.self.invariant

pub invariant_of-self : goal.invariant_of-self
invariant_of-self c = (left c).sound

pub returns-clause-rows : goal.returns-clause-rows
returns-clause-rows c = rw (← c.self.view_is) (left c).rows

pub returns-clause-places : goal.returns-clause-places
returns-clause-places c = rw (← c.self.view_is) (left c).places
