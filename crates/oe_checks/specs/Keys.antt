-- Keys that stand more than once (clause 1.3.1).
use Rattle.std.specs.Prelude.{ℕ, List, Option}
use Rattle.oe_facts.specs.declared.keys.CustomerId.{CustomerId}
use Rattle.oe_facts.specs.declared.keys.DistrictId.{DistrictId}
use Rattle.oe_facts.specs.declared.keys.OrderId.{OrderId}
use Rattle.oe_facts.specs.declared.keys.StockId.{StockId}
use Rattle.oe_facts.specs.declared.facts.WarehouseFact.{WarehouseFact}
use Rattle.oe_facts.specs.declared.facts.DistrictFact.{DistrictFact}
use Rattle.oe_facts.specs.declared.facts.CustomerFact.{CustomerFact}
use Rattle.oe_facts.specs.declared.facts.NewOrderFact.{NewOrderFact}
use Rattle.oe_facts.specs.declared.facts.OrderFact.{OrderFact}
use Rattle.oe_facts.specs.declared.facts.ItemFact.{ItemFact}
use Rattle.oe_facts.specs.declared.facts.StockFact.{StockFact}
use Rattle.oe_ledgers.specs.Figures.{warehouse_rows, district_rows, customer_rows, new_order_rows}
use Rattle.oe_ledgers.specs.Figures.{order_rows, item_rows, stock_rows}
use Rattle.oe_checks.specs.declared.figures.Apart.{Apart}
use Rattle.oe_checks.specs.Comparing.{repeats_apart}

-- clause 1.3.1: a WAREHOUSE key stands once
abbrev pub warehouses_once : List WarehouseFact → ℕ → Option Apart
warehouses_once warehouses k = repeats_apart (warehouse_rows warehouses k)

-- clause 1.3.1: a DISTRICT key stands once
abbrev pub districts_once : List DistrictFact → DistrictId → Option Apart
districts_once districts k = repeats_apart (district_rows districts k)

-- clause 1.3.1: a CUSTOMER key stands once
abbrev pub customers_once : List CustomerFact → CustomerId → Option Apart
customers_once customers k = repeats_apart (customer_rows customers k)

-- clause 1.3.1: a NEW-ORDER key stands once
abbrev pub new_orders_once : List NewOrderFact → OrderId → Option Apart
new_orders_once new_orders k = repeats_apart (new_order_rows new_orders k)

-- clause 1.3.1: an ORDER key stands once
abbrev pub orders_once : List OrderFact → OrderId → Option Apart
orders_once orders k = repeats_apart (order_rows orders k)

-- clause 1.3.1: an ITEM key stands once
abbrev pub items_once : List ItemFact → ℕ → Option Apart
items_once items k = repeats_apart (item_rows items k)

-- clause 1.3.1: a STOCK key stands once
abbrev pub stocks_once : List StockFact → StockId → Option Apart
stocks_once stocks k = repeats_apart (stock_rows stocks k)
