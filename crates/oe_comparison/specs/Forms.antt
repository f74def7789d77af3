-- What a column of a form holds, in words.
use Rattle.std.specs.Prelude.{ℕ, List, [], ◌++◌, nat_lt, if◌then◌else◌, codes, decimal}
use Rattle.oe_rows.specs.Credit.{money_text}
use Rattle.oe_file_rows.specs.declared.forms.Form.{Form}
use Rattle.oe_file_rows.specs.declared.forms.Form.TheVariants as form

-- number from <low> to <high>
abbrev pub range_text : ℕ → ℕ → List ℕ
range_text low high = codes "number from " ++ decimal low ++ codes " to " ++ decimal high

-- text of <least> to <most> printable bytes; where both are the same, text of <most> printable bytes
abbrev pub bytes_text : ℕ → ℕ → List ℕ
bytes_text least most =
    codes "text of " ++ (if nat_lt least most then decimal least ++ codes " to " else []) ++ decimal most
    ++ codes " printable bytes"

-- amount from 0.00 to <most>
abbrev pub amounts_text : ℕ → List ℕ
amounts_text most = codes "amount from 0.00 to " ++ money_text most

abbrev pub form_text : Form → List ℕ
form_text (form.Number low high) = range_text low high
form_text (form.NullableNumber low high) = range_text low high ++ codes ", and not null"
form_text (form.Text least most) = bytes_text least most
form_text (form.Money most) = amounts_text most
form_text form.Balance = codes "amount"
form_text form.Rate = codes "rate from 0.0000 to 0.9999"
form_text form.Credit = codes "credit, GC or BC"
form_text form.Flag = codes "flag, 1 or 0"
form_text form.Stamp = codes "date and time"
form_text form.NullableStamp = codes "date and time, and not null"
