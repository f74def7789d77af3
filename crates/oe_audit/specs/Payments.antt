-- What was paid in a warehouse or in a district, by the HISTORY rows that stood then.
use Rattle.std.specs.Prelude.{ℕ, Bool, ◌&&◌, cond}
use Rattle.std.specs.Ordering.{eq_by_cmp}
use Rattle.std.specs.FinMap.{FinMap}
use Rattle.oe_rows.specs.Key.{warehouse_cmp, district_cmp, history_cmp}
use Rattle.oe_rows.specs.declared.keys.DistrictKey.{DistrictKey}
use Rattle.oe_rows.specs.declared.keys.HistoryKey.{HistoryKey}
use Rattle.oe_rows.specs.declared.histories.History.{History}
use Rattle.oe_model.specs.Keys.{warehouse_of_district}
use Rattle.oe_model.specs.Rows.{Rows}
use Rattle.oe_model.specs.FurtherConditions.{paid_in_warehouse, paid_in_district}
use Rattle.oe_rows_of.specs.Then.{has_row_then}
use Rattle.oe_audit.specs.declared.payments.Place.{Place}
use Rattle.oe_audit.specs.declared.payments.Place.TheVariants as place

-- a payment in this district is one in the place
abbrev pub is_in : Place → DistrictKey → Bool
is_in (place.Warehouse w) h = eq_by_cmp warehouse_cmp (warehouse_of_district h) w
is_in (place.District g) h = eq_by_cmp district_cmp h g

-- the sum of H_AMOUNT of the payments in it
abbrev pub paid_in : Rows → Place → ℕ
paid_in r (place.Warehouse w) = paid_in_warehouse r w
paid_in r (place.District g) = paid_in_district r g

-- H_AMOUNT of a row that stands, where it stood then and is of a payment in the place
abbrev pub amount_in : Place → Bool → FinMap history_cmp History → HistoryKey × History → ℕ
amount_in p w m e = cond (is_in p e.1.district && has_row_then w m e.0) e.1.amount 0
