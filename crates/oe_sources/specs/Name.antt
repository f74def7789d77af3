-- Tables by their names, and the statement that begins a section.
use Rattle.std.specs.Prelude.{ℕ, ◌-◌, ◌==◌, ◌||◌, Bool, nat_lt, List, [], ◌∷◌, length, map, take, drop, codes}
use Rattle.std.specs.Prelude.{Option, Some, None, if◌then◌else◌}
use Rattle.std.specs.Char.{to_ascii_lowercase}
use Rattle.std.specs.Option.{option_map}
use Rattle.std.specs.Str.{bytes_eq}
use Rattle.oe_facts.specs.declared.tables.Table.{Table}
use Rattle.oe_facts.specs.declared.tables.Table.TheVariants as table
use Rattle.oe_fields.specs.Spelling.{◌>>=◌}
use Rattle.oe_columns.specs.Headings.{bare}
use Rattle.oe_sources.specs.Text.{after_of, before_of}

-- two names are one, in any case
unfoldable pub is_same : List ℕ → List ℕ → Bool
is_same a b = bytes_eq (map to_ascii_lowercase a) (map to_ascii_lowercase b)

abbrev pub names : List (List ℕ × Table)
names =
    (codes "warehouse", table.Warehouse) ∷ (codes "district", table.District)
    ∷ (codes "customer", table.Customer) ∷ (codes "history", table.History)
    ∷ (codes "new_order", table.NewOrder) ∷ (codes "neworder", table.NewOrder)
    ∷ (codes "order", table.Order) ∷ (codes "orders", table.Order) ∷ (codes "oorder", table.Order)
    ∷ (codes "order_line", table.OrderLine) ∷ (codes "orderline", table.OrderLine)
    ∷ (codes "item", table.Item) ∷ (codes "stock", table.Stock) ∷ []

-- the table of the first name that is this one
abbrev pub lookup : List (List ℕ × Table) → List ℕ → Option Table
lookup [] name = None
lookup (n ∷ ns) name = if is_same name n.0 then Some n.1 else lookup ns name

-- what stands before the first such byte, and what follows it
abbrev pub parted_at : ℕ → List ℕ → Option (List ℕ × List ℕ)
parted_at c [] = None
parted_at c (b ∷ s) = if b == c then Some ([], s) else option_map (λ p. (b ∷ p.0, p.1)) (parted_at c s)

abbrev pub second_or : Option (List ℕ × List ℕ) → List ℕ → List ℕ
second_or None s = s
second_or (Some p) s = p.1

-- without a schema and a point before it
abbrev pub behind_point : List ℕ → List ℕ
behind_point name = second_or (parted_at 46 name) name

-- without `bmsql_` before it
unfoldable pub without_prefix : List ℕ → List ℕ
without_prefix name =
    if nat_lt (length name) 6 then name
    else if is_same (take 6 name) (codes "bmsql_") then drop 6 name
    else name

-- the table of a name in a statement
unfoldable pub table_named : List ℕ → Option Table
table_named name = lookup names (without_prefix (bare (behind_point name)))

unfoldable pub is_ending : List ℕ → Bool
is_ending s =
    is_same s (codes ".txt") || (is_same s (codes ".tbl") || (is_same s (codes ".tsv") || is_same s (codes ".csv")))

-- a file's name without its ending
unfoldable pub without_ending : List ℕ → List ℕ
without_ending name =
    if nat_lt (length name) 4 then name
    else if is_ending (drop (length name - 4) name) then take (length name - 4) name
    else name

-- the table of a file's name
unfoldable pub table_of_file : List ℕ → Option Table
table_of_file name = table_named (without_ending name)

-- the table and the columns of `COPY table (columns) FROM stdin;`
unfoldable pub statement_of : List ℕ → Option (Table × List ℕ)
statement_of text = do
  r ← after_of (codes "COPY ") text
  s ← before_of (codes ") FROM stdin;") r
  p ← parted_at 32 s
  c ← after_of (codes "(") p.1
  t ← table_named p.0
  Some (t, c)
