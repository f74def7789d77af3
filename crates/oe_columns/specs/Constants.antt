-- The columns that no transaction of the standard changes (clauses 1.3.1, 2.4 to 2.8), and their places.
use Rattle.std.specs.Prelude.{ℕ, List, [], ◌∷◌, length, map, codes, Option, Some, Result, Ok}
use Rattle.std.specs.Prelude.{if◌then◌else◌}
use Rattle.oe_facts.specs.declared.tables.Table.{Table}
use Rattle.oe_facts.specs.declared.tables.Table.TheVariants as table
use Rattle.oe_columns.specs.declared.constants.Constant.{Constant}
use Rattle.oe_columns.specs.declared.constants.Form.{Form}
use Rattle.oe_columns.specs.declared.constants.Form.TheVariants as form
use Rattle.oe_columns.specs.declared.constants.Wanted.{Wanted}
use Rattle.oe_columns.specs.declared.constants.Wanted.TheVariants as wanted
use Rattle.oe_columns.specs.declared.headings.LayoutFault.{LayoutFault}
use Rattle.oe_columns.specs.Columns.{columns_of, at_count}
use Rattle.oe_columns.specs.Headings.{placed_from, is_heading, places_in_dump}

-- a column's name, and how its fields are compared
abbrev pub constant_of : Constant → List ℕ × Form
constant_of c = (c.name.now, c.form)

abbrev pub text : List ℕ → List ℕ × Form
text name = (name, form.Text)

abbrev pub number : List ℕ → List ℕ × Form
number name = (name, form.Number)

abbrev pub constants_of : Table → List (List ℕ × Form)
constants_of table.Warehouse =
    text (codes "W_NAME") ∷ text (codes "W_STREET_1") ∷ text (codes "W_STREET_2") ∷ text (codes "W_CITY")
    ∷ text (codes "W_STATE") ∷ text (codes "W_ZIP") ∷ number (codes "W_TAX") ∷ []
constants_of table.District =
    text (codes "D_NAME") ∷ text (codes "D_STREET_1") ∷ text (codes "D_STREET_2") ∷ text (codes "D_CITY")
    ∷ text (codes "D_STATE") ∷ text (codes "D_ZIP") ∷ number (codes "D_TAX") ∷ []
constants_of table.Customer =
    text (codes "C_FIRST") ∷ text (codes "C_MIDDLE") ∷ text (codes "C_LAST") ∷ text (codes "C_STREET_1")
    ∷ text (codes "C_STREET_2") ∷ text (codes "C_CITY") ∷ text (codes "C_STATE") ∷ text (codes "C_ZIP")
    ∷ text (codes "C_PHONE") ∷ text (codes "C_SINCE") ∷ text (codes "C_CREDIT") ∷ number (codes "C_CREDIT_LIM")
    ∷ number (codes "C_DISCOUNT") ∷ []
constants_of table.Item =
    number (codes "I_IM_ID") ∷ text (codes "I_NAME") ∷ number (codes "I_PRICE") ∷ text (codes "I_DATA") ∷ []
constants_of table.Stock =
    text (codes "S_DIST_01") ∷ text (codes "S_DIST_02") ∷ text (codes "S_DIST_03") ∷ text (codes "S_DIST_04")
    ∷ text (codes "S_DIST_05") ∷ text (codes "S_DIST_06") ∷ text (codes "S_DIST_07") ∷ text (codes "S_DIST_08")
    ∷ text (codes "S_DIST_09") ∷ text (codes "S_DIST_10") ∷ text (codes "S_DATA") ∷ []
constants_of table.History = []
constants_of table.NewOrder = []
constants_of table.Order = []
constants_of table.OrderLine = []

abbrev pub constant_names : Table → List (List ℕ)
constant_names t = map (λ c. c.0) (constants_of t)

-- the places of these columns on a line of a dump, by its number of fields
unfoldable pub dump_constants : Table → ℕ → Option (List ℕ)
dump_constants table.Warehouse n = at_count 9 (1 ∷ 2 ∷ 3 ∷ 4 ∷ 5 ∷ 6 ∷ 7 ∷ []) n
dump_constants table.District n = at_count 11 (2 ∷ 3 ∷ 4 ∷ 5 ∷ 6 ∷ 7 ∷ 8 ∷ []) n
dump_constants table.Customer n =
    at_count 21 (3 ∷ 4 ∷ 5 ∷ 6 ∷ 7 ∷ 8 ∷ 9 ∷ 10 ∷ 11 ∷ 12 ∷ 13 ∷ 14 ∷ 15 ∷ []) n
dump_constants table.Item n = at_count 5 (1 ∷ 2 ∷ 3 ∷ 4 ∷ []) n
dump_constants table.Stock n = at_count 17 (3 ∷ 4 ∷ 5 ∷ 6 ∷ 7 ∷ 8 ∷ 9 ∷ 10 ∷ 11 ∷ 12 ∷ 16 ∷ []) n
dump_constants table.History n = Some []
dump_constants table.NewOrder n = Some []
dump_constants table.Order n = Some []
dump_constants table.OrderLine n = Some []

-- the places of these columns in a heading of these fields; in a fault they are counted behind those that a fact needs
unfoldable pub heading_constants : Table → List (List ℕ) → Result (List ℕ) LayoutFault
heading_constants t fields = placed_from (constant_names t) (length (columns_of t)) fields

-- the places, by the fields of a file's first line
unfoldable pub constants_in : Table → List (List ℕ) → Result (List ℕ) LayoutFault
constants_in t fields =
    if is_heading fields then heading_constants t fields
    else places_in_dump (length fields) (dump_constants t (length fields))

-- these places where prints are wanted, and else none
unfoldable pub wanted_constants : Wanted → Result (List ℕ) LayoutFault → Result (List ℕ) LayoutFault
wanted_constants wanted.Facts places = Ok []
wanted_constants wanted.Prints places = places
