-- The columns that a fact needs of each table, in the table's order (clause 1.3.1), and their places in a dump.
use Rattle.std.specs.Prelude.{ℕ, ◌==◌, List, [], ◌∷◌, map, codes, Option, Some, None, if◌then◌else◌}
use Rattle.oe_facts.specs.declared.tables.Table.{Table}
use Rattle.oe_facts.specs.declared.tables.Table.TheVariants as table
use Rattle.oe_columns.specs.declared.columns.Kind.{Kind}
use Rattle.oe_columns.specs.declared.columns.Kind.TheVariants as kind
use Rattle.oe_columns.specs.declared.columns.Column.{Column}

-- a warehouse, a customer, an order or an item
abbrev pub id : Kind
id = kind.Number 1 4_294_967_295

-- a district
abbrev pub district_id : Kind
district_id = kind.Number 1 10

abbrev pub line_number : Kind
line_number = kind.Number 1 255

-- OL_QUANTITY, O_OL_CNT
abbrev pub small : Kind
small = kind.Number 0 4_294_967_295

-- a sum or a count
abbrev pub counter : Kind
counter = kind.Number 0 18_446_744_073_709_551_615

-- a column's name and kind
abbrev pub column_of : Column → List ℕ × Kind
column_of c = (c.name.now, c.kind)

abbrev pub columns_of : Table → List (List ℕ × Kind)
columns_of table.Warehouse = (codes "W_ID", id) ∷ (codes "W_YTD", kind.Amount) ∷ []
columns_of table.District =
    (codes "D_W_ID", id) ∷ (codes "D_ID", district_id) ∷ (codes "D_YTD", kind.Amount)
    ∷ (codes "D_NEXT_O_ID", id) ∷ []
columns_of table.Customer =
    (codes "C_W_ID", id) ∷ (codes "C_D_ID", district_id) ∷ (codes "C_ID", id)
    ∷ (codes "C_BALANCE", kind.Amount) ∷ (codes "C_YTD_PAYMENT", kind.Amount)
    ∷ (codes "C_PAYMENT_CNT", counter) ∷ (codes "C_DELIVERY_CNT", counter) ∷ []
columns_of table.History =
    (codes "H_C_ID", id) ∷ (codes "H_C_D_ID", district_id) ∷ (codes "H_C_W_ID", id)
    ∷ (codes "H_D_ID", district_id) ∷ (codes "H_W_ID", id) ∷ (codes "H_AMOUNT", kind.Amount) ∷ []
columns_of table.NewOrder =
    (codes "NO_W_ID", id) ∷ (codes "NO_D_ID", district_id) ∷ (codes "NO_O_ID", id) ∷ []
columns_of table.Order =
    (codes "O_W_ID", id) ∷ (codes "O_D_ID", district_id) ∷ (codes "O_ID", id) ∷ (codes "O_C_ID", id)
    ∷ (codes "O_CARRIER_ID", kind.Nullable) ∷ (codes "O_OL_CNT", small) ∷ (codes "O_ALL_LOCAL", kind.Flag) ∷ []
columns_of table.OrderLine =
    (codes "OL_W_ID", id) ∷ (codes "OL_D_ID", district_id) ∷ (codes "OL_O_ID", id)
    ∷ (codes "OL_NUMBER", line_number) ∷ (codes "OL_I_ID", id) ∷ (codes "OL_SUPPLY_W_ID", id)
    ∷ (codes "OL_DELIVERY_D", kind.Nullable) ∷ (codes "OL_QUANTITY", small)
    ∷ (codes "OL_AMOUNT", kind.Amount) ∷ []
columns_of table.Item = (codes "I_ID", id) ∷ []
columns_of table.Stock =
    (codes "S_W_ID", id) ∷ (codes "S_I_ID", id) ∷ (codes "S_QUANTITY", kind.Quantity)
    ∷ (codes "S_YTD", counter) ∷ (codes "S_ORDER_CNT", counter) ∷ (codes "S_REMOTE_CNT", counter) ∷ []

-- what the columns' fields have to spell
abbrev pub kinds_of : Table → List Kind
kinds_of t = map (λ c. c.1) (columns_of t)

abbrev pub names_of : Table → List (List ℕ)
names_of t = map (λ c. c.0) (columns_of t)

-- the places, where the line has as many fields
abbrev pub at_count : ℕ → List ℕ → ℕ → Option (List ℕ)
at_count count places n = if n == count then Some places else None

-- The places of these columns on a line of a dump, by its number of fields. A HISTORY line has three columns of ours in
-- front, or not.
unfoldable pub dump_places : Table → ℕ → Option (List ℕ)
dump_places table.Warehouse n = at_count 9 (0 ∷ 8 ∷ []) n
dump_places table.District n = at_count 11 (0 ∷ 1 ∷ 9 ∷ 10 ∷ []) n
dump_places table.Customer n = at_count 21 (0 ∷ 1 ∷ 2 ∷ 16 ∷ 17 ∷ 18 ∷ 19 ∷ []) n
dump_places table.History n =
    if n == 8 then Some (0 ∷ 1 ∷ 2 ∷ 3 ∷ 4 ∷ 6 ∷ []) else at_count 11 (3 ∷ 4 ∷ 5 ∷ 6 ∷ 7 ∷ 9 ∷ []) n
dump_places table.NewOrder n = at_count 3 (0 ∷ 1 ∷ 2 ∷ []) n
dump_places table.Order n = at_count 8 (0 ∷ 1 ∷ 2 ∷ 3 ∷ 5 ∷ 6 ∷ 7 ∷ []) n
dump_places table.OrderLine n = at_count 10 (0 ∷ 1 ∷ 2 ∷ 3 ∷ 4 ∷ 5 ∷ 6 ∷ 7 ∷ 8 ∷ []) n
dump_places table.Item n = at_count 5 (0 ∷ []) n
dump_places table.Stock n = at_count 17 (0 ∷ 1 ∷ 2 ∷ 13 ∷ 14 ∷ 15 ∷ []) n
