-- What a line's words have to be: each form's columns, their ranges, and what is wrong with a word.
use Rattle.std.specs.Prelude.{◌≡◌, ℕ, zero, suc, ◌+◌, ◌*◌, ◌<◌, ◌==◌, Bool, nat_lt, List, [], ◌∷◌, take, drop}
use Rattle.std.specs.Prelude.{length, position, count_by, Option, Some, None, is_some, codes, slice_get, ◌⊎◌}
use Rattle.std.specs.Prelude.{if◌then◌else◌}
use Rattle.std.specs.Option.{option_map, option_or}
use Rattle.std.specs.List.{flat_map, list_any}
use Rattle.oe_values.specs.Front.{◌>>=◌, after_of, pair_of, decimal_of, alone}
use Rattle.oe_rows.specs.declared.keys.Table.{Table}
use Rattle.oe_rows.specs.declared.keys.Table.TheVariants as table
use Rattle.oe_rows.specs.Key.{table_name}
use Rattle.oe_lines.specs.Words.{stamp_of, last_name_of, first_name_of}
use Rattle.oe_reasons.specs.declared.verbs.Verb.{Verb}
use Rattle.oe_reasons.specs.declared.verbs.Verb.TheVariants as verb
use Rattle.oe_reasons.specs.declared.verbs.Kind.{Kind}
use Rattle.oe_reasons.specs.declared.verbs.Kind.TheVariants as kind
use Rattle.oe_reasons.specs.declared.forms.Column.{Column}
use Rattle.oe_reasons.specs.declared.forms.Column.TheVariants as column
use Rattle.oe_reasons.specs.declared.forms.Form.{Form}
use Rattle.oe_reasons.specs.declared.forms.Form.TheVariants as form
use Rattle.oe_reasons.specs.declared.faults.WordFault.{WordFault}
use Rattle.oe_reasons.specs.declared.faults.WordFault.TheVariants as fault
use Rattle.oe_reasons.specs.declared.faults.WrongWord.{WrongWord}
use Rattle.oe_reasons.specs.Verbs.{is_word, kind_of, verbs}

-- THE TABLE OF FORMS

-- the forms that begin with a verb, and all forms
abbrev pub forms_of : Verb → List Form
forms_of verb.Open = form.Opening ∷ []
forms_of verb.Begin = form.Payment ∷ form.NewOrder ∷ form.Delivery ∷ form.Deliveries ∷ form.Rename ∷ []
forms_of verb.Next = form.Next ∷ []
forms_of verb.Run = form.Run ∷ []
forms_of verb.Save = form.Save ∷ []
forms_of verb.Back = form.Back ∷ []
forms_of verb.Rollback = form.Rollback ∷ []
forms_of verb.Read = form.Status ∷ form.Level ∷ []
forms_of verb.Audit = form.Audit ∷ []
forms_of verb.Purge = form.Purge ∷ []
forms_of verb.Rewind = form.Rewind ∷ []
forms_of verb.Dump = form.Dump ∷ []
forms_of verb.Waits = form.Waits ∷ []
forms_of verb.Locks = form.Locks ∷ []

abbrev pub forms : List Form
forms = flat_map forms_of verbs

-- the columns of a form, in the order of its words; its own words stand in it as they are
abbrev pub columns_of : Form → List Column
columns_of form.Opening =
    column.Verb verb.Open ∷ column.Warehouses ∷ column.Customers ∷ column.Items ∷ column.Extents ∷
    column.Layout ∷ []
columns_of form.Payment =
    column.Verb verb.Begin ∷ column.Terminal ∷ column.Kind kind.Payment ∷ column.Warehouse ∷ column.District ∷
    column.CustomerWarehouse ∷ column.CustomerDistrict ∷ column.Buyer ∷ column.Amount ∷ column.Stamp ∷ []
columns_of form.NewOrder =
    column.Verb verb.Begin ∷ column.Terminal ∷ column.Kind kind.NewOrder ∷ column.Warehouse ∷ column.District ∷
    column.Customer ∷ column.Stamp ∷ column.OrderLine ∷ column.OrderLine ∷ column.OrderLine ∷
    column.OrderLine ∷ column.OrderLine ∷ column.OrderLine ∷ column.OrderLine ∷ column.OrderLine ∷
    column.OrderLine ∷ column.OrderLine ∷ column.OrderLine ∷ column.OrderLine ∷ column.OrderLine ∷
    column.OrderLine ∷ column.OrderLine ∷ []
columns_of form.Delivery =
    column.Verb verb.Begin ∷ column.Terminal ∷ column.Kind kind.Delivery ∷ column.Warehouse ∷ column.District ∷
    column.Carrier ∷ column.Stamp ∷ []
columns_of form.Deliveries =
    column.Verb verb.Begin ∷ column.Terminal ∷ column.Kind kind.Delivery ∷ column.Warehouse ∷ column.Carrier ∷
    column.Stamp ∷ []
columns_of form.Rename =
    column.Verb verb.Begin ∷ column.Terminal ∷ column.Kind kind.Rename ∷ column.Warehouse ∷ column.District ∷
    column.Customer ∷ column.LastName ∷ column.FirstName ∷ []
columns_of form.Next = column.Verb verb.Next ∷ column.Terminal ∷ []
columns_of form.Run = column.Verb verb.Run ∷ column.Terminal ∷ []
columns_of form.Save = column.Verb verb.Save ∷ column.Terminal ∷ []
columns_of form.Back = column.Verb verb.Back ∷ column.Terminal ∷ []
columns_of form.Rollback = column.Verb verb.Rollback ∷ column.Terminal ∷ []
columns_of form.Status =
    column.Verb verb.Read ∷ column.Moment ∷ column.Kind kind.Status ∷ column.Warehouse ∷ column.District ∷
    column.Buyer ∷ []
columns_of form.Level =
    column.Verb verb.Read ∷ column.Moment ∷ column.Kind kind.Level ∷ column.Warehouse ∷ column.District ∷
    column.Threshold ∷ []
columns_of form.Audit = column.Verb verb.Audit ∷ column.Condition ∷ column.Moment ∷ []
columns_of form.Purge = column.Verb verb.Purge ∷ column.Moment ∷ []
columns_of form.Rewind = column.Verb verb.Rewind ∷ column.Moment ∷ []
columns_of form.Dump = column.Verb verb.Dump ∷ column.Table ∷ []
columns_of form.Waits = column.Verb verb.Waits ∷ []
columns_of form.Locks = column.Verb verb.Locks ∷ []

-- an order has 5 to 15 lines, and an opening need not say a layout; each other form has as many words as columns
abbrev pub least_words : Form → ℕ
least_words form.NewOrder = 12
least_words form.Opening = 5
least_words f = length (columns_of f)

abbrev pub most_words : Form → ℕ
most_words f = length (columns_of f)

-- the least and the greatest number of a column, of an amount in cents; of the others 0
abbrev pub least : Column → ℕ
least column.Warehouses = 1
least column.Customers = 1
least column.Items = 1
least column.Extents = 2
least column.Layout = 1
least column.Terminal = 1
least column.Warehouse = 1
least column.District = 1
least column.CustomerWarehouse = 1
least column.CustomerDistrict = 1
least column.Customer = 1
least column.Supply = 1
least column.Item = 1
least column.Quantity = 1
least column.Amount = 100
least column.Carrier = 1
least column.Threshold = 10
least column.Condition = 1
least column.Moment = 0
least c = 0

abbrev pub greatest : Column → ℕ
greatest column.Warehouses = 16
greatest column.Customers = 3_000
greatest column.Items = 100_000
greatest column.Extents = 4_096
greatest column.Layout = 2
greatest column.Terminal = 64
greatest column.Warehouse = 16
greatest column.District = 10
greatest column.CustomerWarehouse = 16
greatest column.CustomerDistrict = 10
greatest column.Customer = 3_000
greatest column.Supply = 16
greatest column.Item = 999_999
greatest column.Quantity = 10
greatest column.Amount = 500_000
greatest column.Carrier = 10
greatest column.Threshold = 20
greatest column.Condition = 12
greatest column.Moment = 999_999_999_999
greatest c = 0

-- WORDS

-- the bytes before the first blank, and those behind it
abbrev pub up_to : Option ℕ → List ℕ → List ℕ
up_to None line = line
up_to (Some n) line = take n line

abbrev pub first_word : List ℕ → List ℕ
first_word line = up_to (position (λ b. b == 32) line) line

abbrev pub behind : List ℕ → Option (List ℕ)
behind line = option_map (λ n. drop (n + 1) line) (position (λ b. b == 32) line)

-- what stands behind n blanks, and the word there
abbrev pub text_from : List ℕ → ℕ → Option (List ℕ)
text_from line zero = Some line
text_from line (suc n) = text_from line n >>= behind

abbrev pub word_at : List ℕ → ℕ → Option (List ℕ)
word_at line n = option_map first_word (text_from line n)

-- how many words a line has, which single blanks part
abbrev pub words_in : List ℕ → ℕ
words_in line = count_by (λ b. b == 32) line + 1

-- WHAT IS WRONG WITH A WORD

-- the number that a word is; the cents that it is
unfoldable pub number_in : List ℕ → Option ℕ
number_in s = do
  p ← decimal_of s
  alone p.0 p.1

unfoldable pub amount_in : List ℕ → Option ℕ
amount_in s = do
  w ← decimal_of s
  a ← after_of (codes ".") w.1
  d ← pair_of a
  alone (w.0 * 100 + d.0) d.1

-- the column of a word that is wrong, and what is wrong with it
abbrev pub Wrong : Type 0
Wrong = Option (Column × WordFault)

-- a number that is out of its column's range
abbrev pub out_of_range : Column → ℕ → Wrong
out_of_range c n =
    if nat_lt n (least c) then Some (c, fault.Below)
    else if nat_lt (greatest c) n then Some (c, fault.Above)
    else None

abbrev pub number_fault : Column → Option ℕ → Wrong
number_fault c None = Some (c, fault.Misspelt)
number_fault c (Some n) = out_of_range c n

-- an order's line: the first that is wrong of its supply warehouse, its item and the quantity
abbrev pub line_fault : Option (ℕ × ℕ × ℕ) → Wrong
line_fault None = Some (column.OrderLine, fault.Misspelt)
line_fault (Some l) =
    option_or (option_or (out_of_range column.Supply l.0) (out_of_range column.Item l.1))
    (out_of_range column.Quantity l.2)

unfoldable pub line_in : List ℕ → Option (ℕ × ℕ × ℕ)
line_in s = do
  w ← decimal_of s
  a ← after_of (codes ":") w.1
  i ← decimal_of a
  b ← after_of (codes ":") i.1
  q ← decimal_of b
  alone (w.0, i.0, q.0) q.1

-- a word is the name of one of the nine tables
abbrev pub tables : List Table
tables =
    table.Warehouse ∷ table.District ∷ table.Customer ∷ table.History ∷ table.NewOrder ∷ table.Order ∷
    table.OrderLine ∷ table.Item ∷ table.Stock ∷ []

unfoldable pub is_table : List ℕ → Bool
is_table s = list_any (λ t. is_word s (table_name t)) tables

-- a form's own words are right, since they chose it; a stamp and a name are what the grammar reads as one
abbrev pub fault_of : Column → List ℕ → Wrong
fault_of (column.Verb v) s = None
fault_of (column.Kind k) s = None
fault_of column.Table s = if is_table s then None else Some (column.Table, fault.Misspelt)
fault_of column.Stamp s = if is_some (stamp_of s) then None else Some (column.Stamp, fault.Misspelt)
fault_of column.LastName s = if is_some (last_name_of s) then None else Some (column.LastName, fault.Misspelt)
fault_of column.FirstName s = if is_some (first_name_of s) then None else Some (column.FirstName, fault.Misspelt)
fault_of column.OrderLine s = line_fault (line_in s)
fault_of column.Buyer s =
    if is_some (last_name_of s) then None
    else if is_some (number_in s) then number_fault column.Customer (number_in s)
    else Some (column.Buyer, fault.Misspelt)
fault_of column.Moment s =
    if is_word s (codes "now") then None else number_fault column.Moment (number_in s)
fault_of column.Amount s = number_fault column.Amount (amount_in s)
fault_of c s = number_fault c (number_in s)

-- THE FORM OF A LINE

-- the form that a line has to be of, by its verb, its third word, and of a delivery by whether it has a seventh
abbrev pub begun_of : Kind → Bool → Option Form
begun_of kind.Payment is_long = Some form.Payment
begun_of kind.NewOrder is_long = Some form.NewOrder
begun_of kind.Delivery is_long = if is_long then Some form.Delivery else Some form.Deliveries
begun_of kind.Rename is_long = Some form.Rename
begun_of k is_long = None

abbrev pub query_of : Kind → Option Form
query_of kind.Status = Some form.Status
query_of kind.Level = Some form.Level
query_of k = None

abbrev pub form_of : Verb → List ℕ → Option Form
form_of verb.Open line = Some form.Opening
form_of verb.Begin line = do
  w ← word_at line 2
  k ← kind_of w
  begun_of k (is_some (word_at line 6))
form_of verb.Read line = do
  w ← word_at line 2
  k ← kind_of w
  query_of k
form_of verb.Next line = Some form.Next
form_of verb.Run line = Some form.Run
form_of verb.Save line = Some form.Save
form_of verb.Back line = Some form.Back
form_of verb.Rollback line = Some form.Rollback
form_of verb.Audit line = Some form.Audit
form_of verb.Purge line = Some form.Purge
form_of verb.Rewind line = Some form.Rewind
form_of verb.Dump line = Some form.Dump
form_of verb.Waits line = Some form.Waits
form_of verb.Locks line = Some form.Locks

-- a word stands where the form has a column, and it is wrong there
pub record IsWrong (line : List ℕ) (f : Form) (w : WrongWord) : Type 0 where
  pub expected : Column
  pub word : List ℕ
  pub has : slice_get (columns_of f) w.place ≡ Some expected
  pub stands : word_at line w.place ≡ Some word
  pub wrong : fault_of expected word ≡ Some (w.column, w.fault)

-- the line has too few words for the form, or too many
abbrev pub IsMiscounted : List ℕ → Form → Type 0
IsMiscounted line f = (words_in line < least_words f) ⊎ (most_words f < words_in line)
