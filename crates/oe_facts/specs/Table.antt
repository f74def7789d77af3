-- The tables' names, and the table of a fact.
use Rattle.std.specs.Prelude.{ℕ, List, codes}
use Rattle.oe_facts.specs.declared.tables.Table.{Table}
use Rattle.oe_facts.specs.declared.tables.Table.TheVariants as table
use Rattle.oe_facts.specs.declared.tables.Fact.{Fact}
use Rattle.oe_facts.specs.declared.tables.Fact.TheVariants as fact

abbrev pub name_of : Table → List ℕ
name_of table.Warehouse = codes "warehouse"
name_of table.District = codes "district"
name_of table.Customer = codes "customer"
name_of table.History = codes "history"
name_of table.NewOrder = codes "neworder"
name_of table.Order = codes "order"
name_of table.OrderLine = codes "orderline"
name_of table.Item = codes "item"
name_of table.Stock = codes "stock"

-- the place of a table among the nine
abbrev pub place_of : Table → ℕ
place_of table.Warehouse = 0
place_of table.District = 1
place_of table.Customer = 2
place_of table.History = 3
place_of table.NewOrder = 4
place_of table.Order = 5
place_of table.OrderLine = 6
place_of table.Item = 7
place_of table.Stock = 8

abbrev pub table_of : Fact → Table
table_of (fact.Warehouse f) = table.Warehouse
table_of (fact.District f) = table.District
table_of (fact.Customer f) = table.Customer
table_of (fact.History f) = table.History
table_of (fact.NewOrder f) = table.NewOrder
table_of (fact.Order f) = table.Order
table_of (fact.OrderLine f) = table.OrderLine
table_of (fact.Item f) = table.Item
table_of (fact.Stock f) = table.Stock
