-- The texts of reasons.
use Rattle.std.specs.Prelude.{ℕ, ◌==◌, List, [], ◌++◌, codes, decimal, Option, Some, None, if◌then◌else◌}
use Rattle.oe_reasons.specs.declared.verbs.Verb.{Verb}
use Rattle.oe_reasons.specs.declared.forms.Column.{Column}
use Rattle.oe_reasons.specs.declared.forms.Column.TheVariants as column
use Rattle.oe_reasons.specs.declared.forms.Form.{Form}
use Rattle.oe_reasons.specs.declared.forms.Form.TheVariants as form
use Rattle.oe_reasons.specs.declared.faults.WordFault.{WordFault}
use Rattle.oe_reasons.specs.declared.faults.WordFault.TheVariants as fault
use Rattle.oe_reasons.specs.declared.faults.WrongWord.{WrongWord}
use Rattle.oe_reasons.specs.declared.reasons.Reason.{Reason}
use Rattle.oe_reasons.specs.declared.reasons.Reason.TheVariants as reason
use Rattle.oe_reasons.specs.Columns.{first_word, forms_of, least_words, most_words, word_at, words_in}
use Rattle.oe_reasons.specs.Shapes.{either_text, form_text, greatest_text, least_text, range_text}
use Rattle.oe_reasons.specs.Verbs.{verb_word}

abbrev pub column_name : Column → List ℕ
column_name (column.Verb v) = codes "word"
column_name (column.Kind k) = codes "word"
column_name column.Warehouses = codes "warehouses"
column_name column.Customers = codes "customers"
column_name column.Items = codes "items"
column_name column.Extents = codes "extents"
column_name column.Layout = codes "layout"
column_name column.Terminal = codes "terminal"
column_name column.Warehouse = codes "warehouse"
column_name column.District = codes "district"
column_name column.CustomerWarehouse = codes "customer warehouse"
column_name column.CustomerDistrict = codes "customer district"
column_name column.Customer = codes "customer"
column_name column.Supply = codes "the supply warehouse in"
column_name column.Item = codes "the item in"
column_name column.Quantity = codes "the quantity in"
column_name column.Amount = codes "amount"
column_name column.Carrier = codes "carrier"
column_name column.Threshold = codes "threshold"
column_name column.Condition = codes "condition"
column_name column.Moment = codes "moment"
column_name column.Buyer = codes "customer"
column_name column.LastName = codes "last name"
column_name column.FirstName = codes "first name"
column_name column.Stamp = codes "stamp"
column_name column.OrderLine = codes "order line"
column_name column.Table = codes "table"

-- what a word of a column is not
abbrev pub misspelt_text : Column → List ℕ
misspelt_text column.Amount = codes " is no amount of digits, a point and two decimals"
misspelt_text column.Moment = codes " is neither now nor a number of at most 15 digits without a leading 0"
misspelt_text column.Buyer = codes " is neither a number without a leading 0 nor a last name of 1 to 16 letters A to Z"
misspelt_text column.LastName = codes " is not " ++ range_text column.LastName
misspelt_text column.FirstName = codes " is not " ++ range_text column.FirstName
misspelt_text column.Stamp = codes " is no " ++ range_text column.Stamp
misspelt_text column.OrderLine = codes " is not of the form supply:item:quantity"
misspelt_text column.Table = codes " is none of " ++ range_text column.Table
misspelt_text c = codes " is no number of at most 15 digits without a leading 0"

abbrev pub guess_text : Option Verb → List ℕ
guess_text None = []
guess_text (Some v) = codes "; did you mean \"" ++ verb_word v ++ codes "\"?"

abbrev pub word_text : Option (List ℕ) → List ℕ
word_text None = []
word_text (Some w) = w

-- `amount 0.99 is below 1.00`
abbrev pub fault_text : Column → WordFault → List ℕ
fault_text c fault.Misspelt = misspelt_text c
fault_text c fault.Below = codes " is below " ++ least_text c
fault_text c fault.Above = codes " is above " ++ greatest_text c

abbrev pub wrong_text : List ℕ → WrongWord → List ℕ
wrong_text line w =
    column_name w.column ++ codes " " ++ word_text (word_at line w.place) ++ fault_text w.column w.fault

-- `it has 3 words, not 2: next TERMINAL`
abbrev pub counted_text : ℕ → List ℕ
counted_text n = decimal n ++ (if n == 1 then codes " word" else codes " words")

abbrev pub span_text : Form → List ℕ
span_text f = decimal (least_words f) ++ codes " to " ++ decimal (most_words f)

abbrev pub count_text : Form → List ℕ
count_text form.NewOrder = span_text form.NewOrder
count_text form.Opening = span_text form.Opening
count_text f = decimal (least_words f)

abbrev pub miscounted_text : List ℕ → Form → List ℕ
miscounted_text line f =
    codes "it has " ++ counted_text (words_in line) ++ codes ", not " ++ count_text f ++ codes ":" ++ form_text f

-- the reason why a line is not taken
abbrev pub reason_text : List ℕ → Reason → List ℕ
reason_text line reason.Long = codes "it has more than 1024 bytes"
reason_text line reason.CarriageReturn = codes "it ends in CR LF; a line ends in LF alone"
reason_text line (reason.Unprintable n) =
    codes "byte " ++ decimal n ++ codes " is no printable ASCII character"
reason_text line reason.LastBlank = codes "it ends in a blank"
reason_text line reason.NoWord = codes "it is empty, or begins with a blank"
reason_text line reason.NoAudit = codes "condition 11 has no audit"
reason_text line reason.AlreadyOpen = codes "something is open already"
reason_text line reason.NotOpen = codes "nothing is open yet"
reason_text line (reason.NoVerb near) =
    codes "no form begins with \"" ++ first_word line ++ codes "\"" ++ guess_text near
reason_text line (reason.Miscounted f) = miscounted_text line f
reason_text line (reason.Wrong w) = wrong_text line w
reason_text line (reason.NotSo v) = codes "it is not of the form" ++ either_text (forms_of v)
