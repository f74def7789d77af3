-- The texts of columns (clause 1.3.1).
use Rattle.std.specs.Prelude.{ℕ, suc, ◌/◌, ◌%◌, List, [], ◌∷◌, ◌++◌, Bool, true, false, Option, None, Some, ℤ, pos}
use Rattle.std.specs.Prelude.{negsuc, codes}
use Rattle.oe_rows.specs.declared.customers.Credit.{Credit}
use Rattle.oe_rows.specs.declared.customers.Credit.TheVariants as credit
use Rattle.oe_rows.specs.Credit.{money_text}
use Rattle.oe_values.specs.Stamp.{two_digits}

-- money that may be negative, with a minus sign where it is
abbrev pub balance_text : ℤ → List ℕ
balance_text (pos cents) = money_text cents
balance_text (negsuc n) = codes "-" ++ money_text (suc n)

-- a rate below 1 in ten-thousandths: four decimals
abbrev pub rate_text : ℕ → List ℕ
rate_text rate = codes "0." ++ two_digits (rate / 100) ++ two_digits (rate % 100)

-- C_CREDIT
abbrev pub credit_text : Credit → List ℕ
credit_text credit.Good = codes "GC"
credit_text credit.Bad = codes "BC"

-- a column that is 1 where it is true
abbrev pub flag_text : Bool → List ℕ
flag_text true = codes "1"
flag_text false = codes "0"

-- a column that may be null
abbrev pub nullable : (ℕ → List ℕ) → Option ℕ → List ℕ
nullable text None = codes "-"
nullable text (Some n) = text n

-- columns parted by one tab byte, and ended by byte 10
abbrev pub line_of : List (List ℕ) → List ℕ
line_of [] = 10 ∷ []
line_of (c ∷ []) = c ++ 10 ∷ []
line_of (c ∷ d ∷ cs) = c ++ 9 ∷ line_of (d ∷ cs)

-- columns with a tab byte after each: the beginning of a row
abbrev pub with_tabs : List (List ℕ) → List ℕ
with_tabs [] = []
with_tabs (c ∷ cs) = c ++ 9 ∷ with_tabs cs
