-- Rows of any table (clause 1.3.1).
use Rattle.oe_rows.specs.declared.keys.Table.{Table}
use Rattle.oe_rows.specs.declared.keys.Table.TheVariants as table
use Rattle.oe_rows.specs.declared.rows.Row.{Row}
use Rattle.oe_rows.specs.declared.rows.Row.TheVariants as row

-- the table that a row is of
abbrev pub table_of_row : Row → Table
table_of_row (row.Warehouse r) = table.Warehouse
table_of_row (row.District r) = table.District
table_of_row (row.Customer r) = table.Customer
table_of_row (row.History r) = table.History
table_of_row (row.NewOrder r) = table.NewOrder
table_of_row (row.Order r) = table.Order
table_of_row (row.OrderLine r) = table.OrderLine
table_of_row (row.Item r) = table.Item
table_of_row (row.Stock r) = table.Stock
