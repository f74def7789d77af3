-- The table of forms as a person reads it: each form, and the range of each column.
use Rattle.std.specs.Prelude.{ℕ, ◌-◌, List, [], ◌∷◌, ◌++◌, codes, decimal, take, drop, length}
use Rattle.std.specs.List.{flat_map, join_by}
use Rattle.oe_rows.specs.Credit.{money_text}
use Rattle.oe_reasons.specs.declared.forms.Column.{Column}
use Rattle.oe_reasons.specs.declared.forms.Column.TheVariants as column
use Rattle.oe_reasons.specs.declared.forms.Form.{Form}
use Rattle.oe_reasons.specs.declared.forms.Form.TheVariants as form
use Rattle.oe_reasons.specs.Verbs.{kind_word, verb_word}
use Rattle.oe_reasons.specs.Columns.{columns_of, forms, greatest, least, least_words, most_words}

-- FORMS

-- what stands for a word of a form: its own words as they are, and the names of columns in capitals
abbrev pub shown_word : Column → List ℕ
shown_word (column.Verb v) = verb_word v
shown_word (column.Kind k) = kind_word k
shown_word column.Warehouses = codes "WAREHOUSES"
shown_word column.Customers = codes "CUSTOMERS"
shown_word column.Items = codes "ITEMS"
shown_word column.Extents = codes "EXTENTS"
shown_word column.Layout = codes "LAYOUT"
shown_word column.Terminal = codes "TERMINAL"
shown_word column.Warehouse = codes "WAREHOUSE"
shown_word column.District = codes "DISTRICT"
shown_word column.CustomerWarehouse = codes "CUSTOMER_WAREHOUSE"
shown_word column.CustomerDistrict = codes "CUSTOMER_DISTRICT"
shown_word column.Customer = codes "CUSTOMER_NUMBER"
shown_word column.Supply = codes "SUPPLY"
shown_word column.Item = codes "ITEM"
shown_word column.Quantity = codes "QUANTITY"
shown_word column.Amount = codes "AMOUNT"
shown_word column.Carrier = codes "CARRIER"
shown_word column.Threshold = codes "THRESHOLD"
shown_word column.Condition = codes "CONDITION"
shown_word column.Moment = codes "MOMENT"
shown_word column.Buyer = codes "CUSTOMER"
shown_word column.LastName = codes "LAST_NAME"
shown_word column.FirstName = codes "FIRST_NAME"
shown_word column.Stamp = codes "STAMP"
shown_word column.OrderLine = codes "SUPPLY:ITEM:QUANTITY"
shown_word column.Table = codes "TABLE"

-- of an order's lines the first is shown, and ` ..` for those that may follow
abbrev pub shown_columns : Form → List Column
shown_columns form.NewOrder = take 8 (columns_of form.NewOrder)
shown_columns f = columns_of f

abbrev pub more_text : Form → List ℕ
more_text form.NewOrder = codes " .."
more_text f = []

-- a form, with a blank before each word
abbrev pub spaced_word : Column → List ℕ
spaced_word c = codes " " ++ shown_word c

abbrev pub form_text : Form → List ℕ
form_text f = flat_map spaced_word (shown_columns f) ++ more_text f

-- forms, with `or` between each two
abbrev pub or_text : Form → List ℕ
or_text f = codes " or" ++ form_text f

abbrev pub either_text : List Form → List ℕ
either_text fs = join_by form_text (codes " or") fs

-- RANGES

-- the least and the greatest number of a column as lines spell them
abbrev pub least_text : Column → List ℕ
least_text column.Amount = money_text (least column.Amount)
least_text c = decimal (least c)

abbrev pub greatest_text : Column → List ℕ
greatest_text column.Amount = money_text (greatest column.Amount)
greatest_text c = decimal (greatest c)

abbrev pub bounds_text : Column → List ℕ
bounds_text c = least_text c ++ codes " to " ++ greatest_text c

-- how many lines an order has: its words but seven
abbrev pub lines_text : List ℕ
lines_text = decimal (least_words form.NewOrder - 7) ++ codes " to " ++ decimal (most_words form.NewOrder - 7)

-- what a word of a column may be
abbrev pub range_text : Column → List ℕ
range_text column.Buyer = bounds_text column.Customer ++ codes ", or a last name of 1 to 16 letters A to Z"
range_text column.LastName = codes "1 to 16 letters A to Z"
range_text column.FirstName = codes "1 to 16 letters A to Z and digits"
range_text column.Stamp = codes "YYYY-MM-DDTHH:MM:SS of the years 1900 to 2100"
range_text column.OrderLine = lines_text ++ codes " of these"
range_text column.Moment = codes "now, or " ++ bounds_text column.Moment
range_text column.Condition = bounds_text column.Condition ++ codes ", but not 11"
range_text column.Table =
    codes "warehouse, district, customer, history, neworder, order, orderline, item or stock"
range_text c = bounds_text c

-- THE LIST OF BOTH

-- the columns whose ranges the list has
abbrev pub columns_with_range : List Column
columns_with_range =
    column.Warehouses ∷ column.Customers ∷ column.Items ∷ column.Extents ∷ column.Layout ∷ column.Terminal ∷
    column.Warehouse ∷ column.District ∷ column.CustomerWarehouse ∷ column.CustomerDistrict ∷ column.Buyer ∷
    column.Amount ∷ column.Stamp ∷ column.Customer ∷ column.OrderLine ∷ column.Supply ∷ column.Item ∷ column.Quantity ∷
    column.Carrier ∷ column.LastName ∷ column.FirstName ∷ column.Moment ∷ column.Threshold ∷ column.Condition ∷
    column.Table ∷ []

-- a name and the blanks that make it 22 bytes
abbrev pub name_with_blanks : List ℕ → List ℕ
name_with_blanks name = name ++ drop (length name) (codes "                      ")

unfoldable pub form_line : Form → List ℕ
form_line f = codes " " ++ form_text f ++ codes "\n"

unfoldable pub range_line : Column → List ℕ
range_line c = codes "  " ++ name_with_blanks (shown_word c) ++ range_text c ++ codes "\n"

-- the forms, and the ranges of their columns
unfoldable pub forms_text : List ℕ
forms_text =
    codes "\nThe forms of a script's lines, with their columns in capitals:\n\n" ++ flat_map form_line forms
    ++ codes "\nWhat each column holds:\n\n" ++ flat_map range_line columns_with_range
