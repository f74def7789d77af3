-- How many rows there are (clause 1.2.1).
use Rattle.std.specs.Prelude.{ℕ, List, Option}
use Rattle.oe_facts.specs.declared.keys.DistrictId.{DistrictId}
use Rattle.oe_facts.specs.declared.facts.WarehouseFact.{WarehouseFact}
use Rattle.oe_facts.specs.declared.facts.DistrictFact.{DistrictFact}
use Rattle.oe_facts.specs.declared.facts.OrderFact.{OrderFact}
use Rattle.oe_ledgers.specs.Figures.{ten_of_warehouse, districts_of_warehouse, greatest_order, orders_of_district}
use Rattle.oe_checks.specs.declared.figures.Apart.{Apart}
use Rattle.oe_checks.specs.Comparing.{against, single}

-- clause 1.2.1: a warehouse has ten DISTRICT rows
abbrev pub ten_districts : List WarehouseFact → List DistrictFact → ℕ → Option Apart
ten_districts warehouses districts k = against (ten_of_warehouse warehouses k) (districts_of_warehouse districts k)

-- clause 2.4.2.2: the greatest O_ID is the number of ORDER rows
abbrev pub orders_without_gap : List OrderFact → DistrictId → Option Apart
orders_without_gap orders k = single (greatest_order orders k) (orders_of_district orders k)
