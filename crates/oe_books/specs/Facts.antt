-- The facts of nine tables, each table's in the order of its rows.
use Rattle.std.specs.Prelude.{ℕ, Bool, true, false, List, [], ◌∷◌, ◌++◌, length, Option, Some, None}
use Rattle.std.specs.List.{fold}
use Rattle.std.specs.Option.{option_or}
use Rattle.oe_facts.specs.declared.facts.WarehouseFact.{WarehouseFact}
use Rattle.oe_facts.specs.declared.facts.DistrictFact.{DistrictFact}
use Rattle.oe_facts.specs.declared.facts.CustomerFact.{CustomerFact}
use Rattle.oe_facts.specs.declared.facts.HistoryFact.{HistoryFact}
use Rattle.oe_facts.specs.declared.facts.NewOrderFact.{NewOrderFact}
use Rattle.oe_facts.specs.declared.facts.OrderFact.{OrderFact}
use Rattle.oe_facts.specs.declared.facts.OrderLineFact.{OrderLineFact}
use Rattle.oe_facts.specs.declared.facts.ItemFact.{ItemFact}
use Rattle.oe_facts.specs.declared.facts.StockFact.{StockFact}
use Rattle.oe_facts.specs.declared.tables.Fact.{Fact}
use Rattle.oe_facts.specs.declared.tables.Fact.TheVariants as fact
use Rattle.oe_facts.specs.declared.tables.Table.{Table}
use Rattle.oe_facts.specs.declared.tables.Table.TheVariants as table

-- `early` has the CUSTOMER rows that came before the first ORDER or ORDER-LINE row, once such a row came
pub record Facts : Type 0 where
  pub warehouses : List WarehouseFact
  pub districts : List DistrictFact
  pub customers : List CustomerFact
  pub histories : List HistoryFact
  pub new_orders : List NewOrderFact
  pub orders : List OrderFact
  pub lines : List OrderLineFact
  pub items : List ItemFact
  pub stocks : List StockFact
  pub early : Option (List CustomerFact)

abbrev pub no_facts : Facts
no_facts = record {
  warehouses = [];
  districts = [];
  customers = [];
  histories = [];
  new_orders = [];
  orders = [];
  lines = [];
  items = [];
  stocks = [];
  early = None;
}

-- one fact more
abbrev pub with_fact : Facts → Fact → Facts
with_fact t (fact.Warehouse f) = record t { warehouses = t.warehouses ++ f ∷ [] }
with_fact t (fact.District f) = record t { districts = t.districts ++ f ∷ [] }
with_fact t (fact.Customer f) = record t { customers = t.customers ++ f ∷ [] }
with_fact t (fact.History f) = record t { histories = t.histories ++ f ∷ [] }
with_fact t (fact.NewOrder f) = record t { new_orders = t.new_orders ++ f ∷ [] }
with_fact t (fact.Order f) =
    record t { orders = t.orders ++ f ∷ []; early = option_or t.early (Some t.customers) }
with_fact t (fact.OrderLine f) =
    record t { lines = t.lines ++ f ∷ []; early = option_or t.early (Some t.customers) }
with_fact t (fact.Item f) = record t { items = t.items ++ f ∷ [] }
with_fact t (fact.Stock f) = record t { stocks = t.stocks ++ f ∷ [] }

-- these facts by their tables
abbrev pub facts_by_table : List Fact → Facts
facts_by_table facts = fold with_fact no_facts facts

-- Rows of these tables are taken in alike, wherever they come. Those of the other three are not: the CUSTOMER rows
-- before the first ORDER or ORDER-LINE row tell how many orders the population had.
abbrev pub stands_apart : Table → Bool
stands_apart table.Warehouse = true
stands_apart table.District = true
stands_apart table.Customer = false
stands_apart table.History = true
stands_apart table.NewOrder = true
stands_apart table.Order = false
stands_apart table.OrderLine = false
stands_apart table.Item = true
stands_apart table.Stock = true

-- with the facts of others behind, of the tables that stand apart
abbrev pub with_apart : Facts → Facts → Facts
with_apart t u = record t {
  warehouses = t.warehouses ++ u.warehouses;
  districts = t.districts ++ u.districts;
  histories = t.histories ++ u.histories;
  new_orders = t.new_orders ++ u.new_orders;
  items = t.items ++ u.items;
  stocks = t.stocks ++ u.stocks;
}

-- how many facts a table has
abbrev pub rows_of : Facts → Table → ℕ
rows_of t table.Warehouse = length t.warehouses
rows_of t table.District = length t.districts
rows_of t table.Customer = length t.customers
rows_of t table.History = length t.histories
rows_of t table.NewOrder = length t.new_orders
rows_of t table.Order = length t.orders
rows_of t table.OrderLine = length t.lines
rows_of t table.Item = length t.items
rows_of t table.Stock = length t.stocks
