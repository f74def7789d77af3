-- How many customers a district has, and that each warehouse stocks each item.
use Rattle.std.specs.Prelude.{◌≡◌, ℕ, pos, cond, is_some, List, [], ◌∷◌, ◌++◌, Option, Some, None, MatchOption}
use Rattle.std.specs.Option.{option_map}
use Rattle.oe_tally.specs.Tallies.{total}
use Rattle.oe_tally.specs.declared.count.Count.{Count}
use Rattle.oe_facts.specs.declared.keys.DistrictId.{DistrictId}
use Rattle.oe_facts.specs.declared.keys.StockId.{StockId}
use Rattle.oe_facts.specs.declared.facts.WarehouseFact.{WarehouseFact}
use Rattle.oe_facts.specs.declared.facts.DistrictFact.{DistrictFact}
use Rattle.oe_facts.specs.declared.facts.CustomerFact.{CustomerFact}
use Rattle.oe_facts.specs.declared.facts.ItemFact.{ItemFact}
use Rattle.oe_facts.specs.declared.facts.StockFact.{StockFact}
use Rattle.oe_ledgers.specs.declared.warehouses.WarehouseSums.{WarehouseSums}
use Rattle.oe_ledgers.specs.declared.stocks.StockSums.{StockSums}
use Rattle.std.specs.declared.cmp.Ordering.TheVariants.{Less}
use Rattle.oe_ledgers.specs.Keys.{same_stock, district_cmp}
use Rattle.oe_ledgers.specs.Sums.{stocks_joined}
use Rattle.oe_ledgers.specs.Figures.{district_rows, customers_of_district, warehouse_rows, item_rows, stock_rows}
use Rattle.oe_checks.specs.declared.figures.Apart.{Apart}
use Rattle.oe_checks.specs.Comparing.{against}

-- the district has customers, and none before it has
abbrev pub IsFirst : List CustomerFact → DistrictId → Type 0
IsFirst customers first =
    (d : DistrictId) → district_cmp d first ≡ Less → customers_of_district customers d ≡ None

-- the first district that has customers has this number of them; none where no district has one
abbrev pub IsOfFirst : List CustomerFact → Option ℕ → Type 0
IsOfFirst customers number =
    MatchOption number ((d : DistrictId) → customers_of_district customers d ≡ None)
    (λ n. (first : DistrictId) × (customers_of_district customers first ≡ Some (pos n)) × IsFirst customers first)

-- clause 1.2.1: a district has `each` CUSTOMER rows
abbrev pub customers_each : ℕ → List DistrictFact → List CustomerFact → DistrictId → Option Apart
customers_each each districts customers d =
    against (option_map (λ n. pos each) (district_rows districts d)) (customers_of_district customers d)

-- one row is asked for, and there is none
abbrev pub one_missing : Apart
one_missing = record { first = pos 1; second = pos 0 }

-- a STOCK row is asked for where there are its warehouse and its item
abbrev pub missing_stock : {A B C : Type 0} → Option A → Option B → Option C → Option Apart
missing_stock None item stock = None
missing_stock (Some w) None stock = None
missing_stock (Some w) (Some i) None = Some one_missing
missing_stock (Some w) (Some i) (Some s) = None

-- clause 1.2.1: each warehouse has a STOCK row for each item
abbrev pub stock_apart : List WarehouseFact → List ItemFact → List StockFact → StockId → Option Apart
stock_apart warehouses items stocks k =
    missing_stock (warehouse_rows warehouses k.warehouse) (item_rows items k.item) (stock_rows stocks k)

abbrev pub stock_at : ℕ → ℕ → StockId
stock_at w i = record { warehouse = w; item = i }

-- the items of which a warehouse has no STOCK row, in their order
abbrev pub missing_of : List (StockId × StockSums) → ℕ → List (ℕ × Count) → List (StockId × Apart)
missing_of stocks w [] = []
missing_of stocks w (e ∷ items) =
    cond (is_some (total same_stock stocks_joined stocks (stock_at w e.0))) (missing_of stocks w items)
    ((stock_at w e.0, one_missing) ∷ missing_of stocks w items)

-- of each warehouse, in their order
abbrev pub all_missing : List (StockId × StockSums) → List (ℕ × Count) → List (ℕ × WarehouseSums)
    → List (StockId × Apart)
all_missing stocks items [] = []
all_missing stocks items (w ∷ warehouses) = missing_of stocks w.0 items ++ all_missing stocks items warehouses
