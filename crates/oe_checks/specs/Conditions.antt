-- The consistency conditions of clause 3.3.2, of the rows as they are.
use Rattle.std.specs.Prelude.{ℕ, List, Option}
use Rattle.oe_facts.specs.declared.keys.DistrictId.{DistrictId}
use Rattle.oe_facts.specs.declared.keys.OrderId.{OrderId}
use Rattle.oe_facts.specs.declared.facts.WarehouseFact.{WarehouseFact}
use Rattle.oe_facts.specs.declared.facts.DistrictFact.{DistrictFact}
use Rattle.oe_facts.specs.declared.facts.OrderFact.{OrderFact}
use Rattle.oe_facts.specs.declared.facts.NewOrderFact.{NewOrderFact}
use Rattle.oe_facts.specs.declared.facts.OrderLineFact.{OrderLineFact}
use Rattle.oe_facts.specs.declared.facts.HistoryFact.{HistoryFact}
use Rattle.oe_ledgers.specs.Figures.{w_ytd, d_ytd_of_warehouse, d_next_order, greatest_order}
use Rattle.oe_ledgers.specs.Figures.{greatest_new_order, least_new_order, new_orders_of_district, lines_asked}
use Rattle.oe_ledgers.specs.Figures.{lines_there, is_open, has_new_order, o_line_count}
use Rattle.oe_ledgers.specs.Figures.{lines_of_order, is_delivered, delivered_lines, paid_in_warehouse}
use Rattle.oe_ledgers.specs.Figures.{d_ytd, paid_in_district}
use Rattle.oe_checks.specs.declared.figures.Apart.{Apart}
use Rattle.oe_checks.specs.Comparing.{against, all_or_none, even, next, next_if_any, span}

-- clause 3.3.2.1: W_YTD is the sum of D_YTD
abbrev pub condition_1 : List WarehouseFact → List DistrictFact → ℕ → Option Apart
condition_1 warehouses districts k = against (w_ytd warehouses k) (d_ytd_of_warehouse districts k)

-- clause 3.3.2.2: D_NEXT_O_ID is the greatest O_ID and 1
abbrev pub condition_2_of_orders : List DistrictFact → List OrderFact → DistrictId → Option Apart
condition_2_of_orders districts orders k = next (d_next_order districts k) (greatest_order orders k)

-- clause 3.3.2.2: where there is a NEW-ORDER row, D_NEXT_O_ID is the greatest NO_O_ID and 1
abbrev pub condition_2_of_new_orders : List DistrictFact → List NewOrderFact → DistrictId → Option Apart
condition_2_of_new_orders districts new_orders k = next_if_any (d_next_order districts k)
    (greatest_new_order new_orders k)

-- clause 3.3.2.3: the greatest NO_O_ID less the least, and 1, is the number of NEW-ORDER rows
abbrev pub condition_3 : List NewOrderFact → DistrictId → Option Apart
condition_3 new_orders k = span (greatest_new_order new_orders k) (least_new_order new_orders k)
    (new_orders_of_district new_orders k)

-- clause 3.3.2.4: the sum of O_OL_CNT is the number of ORDER-LINE rows
abbrev pub condition_4 : List OrderFact → List OrderLineFact → DistrictId → Option Apart
condition_4 orders lines k = even (lines_asked orders k) (lines_there lines k)

-- clause 3.3.2.5: an order has no O_CARRIER_ID exactly where it has a NEW-ORDER row
abbrev pub condition_5 : List OrderFact → List NewOrderFact → OrderId → Option Apart
condition_5 orders new_orders k = against (is_open orders k) (has_new_order new_orders k)

-- clause 3.3.2.6: O_OL_CNT is the number of ORDER-LINE rows
abbrev pub condition_6 : List OrderFact → List OrderLineFact → OrderId → Option Apart
condition_6 orders lines k = against (o_line_count orders k) (lines_of_order lines k)

-- clause 3.3.2.7: all lines have an OL_DELIVERY_D where their order has an O_CARRIER_ID, and none where it has none
abbrev pub condition_7 : List OrderFact → List OrderLineFact → OrderId → Option Apart
condition_7 orders lines k = all_or_none (is_delivered orders k) (lines_of_order lines k) (delivered_lines lines k)

-- clause 3.3.2.8: W_YTD is the sum of H_AMOUNT
abbrev pub condition_8 : List WarehouseFact → List HistoryFact → ℕ → Option Apart
condition_8 warehouses histories k = against (w_ytd warehouses k) (paid_in_warehouse histories k)

-- clause 3.3.2.9: D_YTD is the sum of H_AMOUNT
abbrev pub condition_9 : List DistrictFact → List HistoryFact → DistrictId → Option Apart
condition_9 districts histories k = against (d_ytd districts k) (paid_in_district histories k)
