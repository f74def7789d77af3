-- Tests of a row, given its key and at most one column, and what they go by.
use Rattle.std.specs.Prelude.{ℕ, ◌+◌, ◌-◌, ◌==◌, Bool, true, ◌&&◌, Option, None, Some, is_some}
use Rattle.std.specs.FinMap.{get}
use Rattle.oe_rows.specs.declared.keys.WarehouseKey.{WarehouseKey}
use Rattle.oe_rows.specs.declared.keys.DistrictKey.{DistrictKey}
use Rattle.oe_model.specs.Rows.{Rows}
use Rattle.oe_model.specs.Conditions.{ytd_of, new_orders_of, lines_asked, lines_there}
use Rattle.oe_model.specs.PopulationTest.{each_row}
use Rattle.oe_model.specs.Audits.{greatest, least, some_and, none_or, order_numbers, new_order_numbers}

-- W_YTD is the sum of the D_YTD of the warehouse's districts (clause 3.3.2.1)
abbrev pub is_summed : Rows → WarehouseKey → ℕ → Bool
is_summed r w ytd = ytd == ytd_of r w

-- D_NEXT_O_ID is the number after a district's greatest O_ID, and after its greatest NO_O_ID where there is one (clause
-- 3.3.2.2)
abbrev pub is_numbered : Rows → DistrictKey → ℕ → Bool
is_numbered r h next =
    some_and (greatest (order_numbers h r.orders)) (λ n. next == n + 1)
    && none_or (greatest (new_order_numbers h r.new_orders)) (λ n. next == n + 1)

-- where a district has a NEW-ORDER row, the greatest NO_O_ID less the least, and 1, is their number (clause 3.3.2.3)
abbrev pub are_counted : Rows → DistrictKey → Bool
are_counted r h =
    none_or (greatest (new_order_numbers h r.new_orders)) (λ n.
    none_or (least (new_order_numbers h r.new_orders)) (λ m. n - m + 1 == new_orders_of r h))

-- the sum of a district's O_OL_CNT is the number of its ORDER-LINE rows (clause 3.3.2.4)
unfoldable pub lines_agree : Rows → DistrictKey → Bool
lines_agree r h = lines_asked r h == lines_there r h

-- the warehouse has a STOCK row for each ITEM row
abbrev pub stocks_each_item : Rows → WarehouseKey → Bool
stocks_each_item r w =
    each_row (λ i y.
    is_some (get r.stocks (record { warehouse = w.warehouse; item = i.item }))) r.items

-- this number is one more than the one before it, where there is one
abbrev pub follows : Option ℕ → ℕ → Bool
follows None n = true
follows (Some b) n = b == n - 1
