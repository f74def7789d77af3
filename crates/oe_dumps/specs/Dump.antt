-- The answer to a dump: each row of a table, in the order of the keys, and how many there are.
use Rattle.std.specs.Prelude.{ℕ, ◌++◌, ◌^◌, ◌-◌, min, List, length}
use Rattle.std.specs.List.{flat_map}
use Rattle.std.specs.FinMap.{FinMap, entries}
use Rattle.std.specs.declared.cmp.Ordering.{Ordering}
use Rattle.oe_rows.specs.declared.keys.Table.{Table}
use Rattle.oe_rows.specs.declared.keys.Table.TheVariants as table
use Rattle.oe_model.specs.Rows.{Rows}
use Rattle.oe_texts.specs.Column.{line_of}
use Rattle.oe_texts.specs.Dump.{warehouse_columns, district_columns, customer_columns, history_columns}
use Rattle.oe_texts.specs.Dump.{new_order_columns, order_columns, order_line_columns, item_columns, stock_columns}
use Rattle.oe_texts.specs.Dump.{count_line}

-- a line for each row
abbrev pub row_lines : {K X : Type 0} → (K → X → List (List ℕ)) → List (K × X) → List ℕ
row_lines columns es = flat_map (λ e. line_of (columns e.0 e.1)) es

-- the count, as 64 bits hold it: no memory has room for more rows
abbrev pub in_64_bits : ℕ → ℕ
in_64_bits n = min n (2 ^ 64 - 1)

-- the rows, and their count
abbrev pub rows_text : {K X : Type 0} {cmp : K → K → Ordering} → (K → X → List (List ℕ)) → FinMap cmp X → List ℕ
rows_text columns m = row_lines columns (entries m) ++ count_line (in_64_bits (length (entries m)))

-- the rows of one table, which stand as they are now, open work included
abbrev pub dump_text : Table → Rows → List ℕ
dump_text table.Warehouse r = rows_text warehouse_columns r.warehouses
dump_text table.District r = rows_text district_columns r.districts
dump_text table.Customer r = rows_text customer_columns r.customers
dump_text table.History r = rows_text history_columns r.histories
dump_text table.NewOrder r = rows_text (λ k x. new_order_columns k) r.new_orders
dump_text table.Order r = rows_text order_columns r.orders
dump_text table.OrderLine r = rows_text order_line_columns r.order_lines
dump_text table.Item r = rows_text item_columns r.items
dump_text table.Stock r = rows_text stock_columns r.stocks
