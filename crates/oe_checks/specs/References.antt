-- Rows that refer to no row (clauses 1.3 and 1.4).
use Rattle.std.specs.Prelude.{ℕ, List, Option}
use Rattle.oe_facts.specs.declared.keys.CustomerId.{CustomerId}
use Rattle.oe_facts.specs.declared.keys.DistrictId.{DistrictId}
use Rattle.oe_facts.specs.declared.keys.OrderId.{OrderId}
use Rattle.oe_facts.specs.declared.keys.StockId.{StockId}
use Rattle.oe_facts.specs.declared.facts.DistrictFact.{DistrictFact}
use Rattle.oe_facts.specs.declared.facts.WarehouseFact.{WarehouseFact}
use Rattle.oe_facts.specs.declared.facts.CustomerFact.{CustomerFact}
use Rattle.oe_facts.specs.declared.facts.HistoryFact.{HistoryFact}
use Rattle.oe_facts.specs.declared.facts.NewOrderFact.{NewOrderFact}
use Rattle.oe_facts.specs.declared.facts.OrderFact.{OrderFact}
use Rattle.oe_facts.specs.declared.facts.OrderLineFact.{OrderLineFact}
use Rattle.oe_facts.specs.declared.facts.StockFact.{StockFact}
use Rattle.oe_facts.specs.declared.facts.ItemFact.{ItemFact}
use Rattle.oe_ledgers.specs.Figures.{districts_of_warehouse, warehouse_rows, customers_of_district, district_rows}
use Rattle.oe_ledgers.specs.Figures.{payments_of_customer, customer_rows, payments_in_district, new_order_rows}
use Rattle.oe_ledgers.specs.Figures.{order_rows, orders_of_customer, lines_of_order, lines_of_stock}
use Rattle.oe_ledgers.specs.Figures.{stock_rows, stocks_of_warehouse, stocks_of_item, item_rows}
use Rattle.oe_checks.specs.declared.figures.Apart.{Apart}
use Rattle.oe_checks.specs.Comparing.{orphans_apart}

-- clause 1.3.1: D_W_ID is a W_ID
abbrev pub districts_refer : List DistrictFact → List WarehouseFact → ℕ → Option Apart
districts_refer districts warehouses k = orphans_apart (districts_of_warehouse districts k)
    (warehouse_rows warehouses k)

-- clause 1.3.1: (C_W_ID, C_D_ID) is a district
abbrev pub customers_refer : List CustomerFact → List DistrictFact → DistrictId → Option Apart
customers_refer customers districts k = orphans_apart (customers_of_district customers k) (district_rows districts k)

-- clause 1.3.1: (H_C_W_ID, H_C_D_ID, H_C_ID) is a customer
abbrev pub histories_refer_to_customers : List HistoryFact → List CustomerFact → CustomerId → Option Apart
histories_refer_to_customers histories customers k = orphans_apart (payments_of_customer histories k)
    (customer_rows customers k)

-- clause 1.3.1: (H_W_ID, H_D_ID) is a district
abbrev pub histories_refer_to_districts : List HistoryFact → List DistrictFact → DistrictId → Option Apart
histories_refer_to_districts histories districts k = orphans_apart (payments_in_district histories k)
    (district_rows districts k)

-- clause 1.3.1: (NO_W_ID, NO_D_ID, NO_O_ID) is an order
abbrev pub new_orders_refer : List NewOrderFact → List OrderFact → OrderId → Option Apart
new_orders_refer new_orders orders k = orphans_apart (new_order_rows new_orders k) (order_rows orders k)

-- clause 1.3.1: (O_W_ID, O_D_ID, O_C_ID) is a customer
abbrev pub orders_refer : List OrderFact → List CustomerFact → CustomerId → Option Apart
orders_refer orders customers k = orphans_apart (orders_of_customer orders k) (customer_rows customers k)

-- clause 1.3.1: (OL_W_ID, OL_D_ID, OL_O_ID) is an order
abbrev pub lines_refer_to_orders : List OrderLineFact → List OrderFact → OrderId → Option Apart
lines_refer_to_orders lines orders k = orphans_apart (lines_of_order lines k) (order_rows orders k)

-- clause 1.3.1: (OL_SUPPLY_W_ID, OL_I_ID) is a STOCK row
abbrev pub lines_refer_to_stocks : List OrderLineFact → List StockFact → StockId → Option Apart
lines_refer_to_stocks lines stocks k = orphans_apart (lines_of_stock lines k) (stock_rows stocks k)

-- clause 1.3.1: S_W_ID is a W_ID
abbrev pub stocks_refer_to_warehouses : List StockFact → List WarehouseFact → ℕ → Option Apart
stocks_refer_to_warehouses stocks warehouses k = orphans_apart (stocks_of_warehouse stocks k)
    (warehouse_rows warehouses k)

-- clause 1.3.1: S_I_ID is an I_ID
abbrev pub stocks_refer_to_items : List StockFact → List ItemFact → ℕ → Option Apart
stocks_refer_to_items stocks items k = orphans_apart (stocks_of_item stocks k) (item_rows items k)
