-- Reading the value of a column from its text, as functions on lists.
use Rattle.std.specs.Prelude.{ℕ, zero, suc, ◌+◌, ◌*◌, ◌==◌, ◌&&◌, ◌||◌, Bool, true, false, ℤ, pos, negsuc, nat_le}
use Rattle.std.specs.Prelude.{nat_lt, List, [], ◌∷◌, length, take, drop, slice_index, slice_set, codes}
use Rattle.std.specs.Prelude.{Option, Some, None, if◌then◌else◌}
use Rattle.std.specs.List.{list_all}
use Rattle.std.specs.Option.{option_map}
use Rattle.std.specs.Str.{bytes_eq}
use Rattle.oe_values.specs.Front.{◌>>=◌, after_of, pair_of, decimal_of, alone}
use Rattle.oe_rows.specs.declared.customers.Credit.{Credit}
use Rattle.oe_rows.specs.declared.customers.Credit.TheVariants.{Good, Bad}
use Rattle.oe_decode.specs.ColumnFronts.{text_within}
use Rattle.oe_lines.specs.Words.{within, stamp_of}
use Rattle.oe_file_rows.specs.declared.forms.Form.{Form}
use Rattle.oe_file_rows.specs.declared.forms.Form.TheVariants as form
use Rattle.oe_file_rows.specs.Value.{Value, Null, Number, Text, Money, Balance, Rate, Standing, Flag, Stamp}

-- two texts are one
unfoldable pub is_word : List ℕ → List ℕ → Bool
is_word a b = bytes_eq a b

-- the number in decimal
unfoldable pub number_of : List ℕ → Option ℕ
number_of s = do
  p ← decimal_of s
  alone p.0 p.1

-- the number in decimal, in the range
abbrev pub number_within : ℕ → ℕ → List ℕ → Option ℕ
number_within low high s = number_of s >>= within low high

-- money in two decimals, as cents
unfoldable pub cents_of : List ℕ → Option ℕ
cents_of s = do
  w ← decimal_of s
  a ← after_of (codes ".") w.1
  d ← pair_of a
  alone (w.0 * 100 + d.0) d.1

-- such money up to the most
abbrev pub money_of : ℕ → List ℕ → Option ℕ
money_of most s = cents_of s >>= within 0 most

abbrev pub debt_cents : ℕ → Option ℤ
debt_cents zero = None
debt_cents (suc n) = if nat_le (suc n) 999_999_999_999 then Some (negsuc n) else None

abbrev pub credit_cents : ℕ → Option ℤ
credit_cents n = if nat_le n 999_999_999_999 then Some (pos n) else None

-- cents behind a minus sign, or else without one
abbrev pub signed_of : Option (List ℕ) → List ℕ → Option ℤ
signed_of None s = cents_of s >>= credit_cents
signed_of (Some r) s = cents_of r >>= debt_cents

unfoldable pub balance_of : List ℕ → Option ℤ
balance_of s = signed_of (after_of (codes "-") s) s

unfoldable pub rate_of : List ℕ → Option ℕ
rate_of s = do
  a ← after_of (codes "0.") s
  h ← pair_of a
  t ← pair_of h.1
  n ← alone (h.0 * 100 + t.0) t.1
  within 0 9_999 n

unfoldable pub credit_of : List ℕ → Option Credit
credit_of s = if is_word s (codes "GC") then Some Good else if is_word s (codes "BC") then Some Bad else None

unfoldable pub flag_of : List ℕ → Option Bool
flag_of s = if is_word s (codes "1") then Some true else if is_word s (codes "0") then Some false else None

-- nothing, or a point and one or more zeros
abbrev pub is_no_fraction : List ℕ → Bool
is_no_fraction [] = true
is_no_fraction (b ∷ []) = false
is_no_fraction (b ∷ c ∷ s) = (b == 46) && ((c == 48) && list_all (λ d. d == 48) s)

-- the stamp of a text in which T or a blank parts date and time
unfoldable pub parted_of : List ℕ → Option ℕ
parted_of s =
    if slice_index s 10 == 32 then stamp_of (slice_set s 10 84) else stamp_of s

-- a stamp, and perhaps a fraction of zeros
unfoldable pub stamp_at : List ℕ → Option ℕ
stamp_at s =
    if nat_lt (length s) 19 then None
    else if is_no_fraction (drop 19 s) then parted_of (take 19 s)
    else None

unfoldable pub is_null : List ℕ → Bool
is_null s = is_word s (codes "-") || is_word s (92 ∷ 78 ∷ [])

-- null, or else what is read
abbrev pub null_or : Bool → Option Value → Option Value
null_or true other = Some Null
null_or false other = other

abbrev pub ranged_of : ℕ → ℕ → List ℕ → Option Value
ranged_of low high s = option_map (λ n. Number n) (number_within low high s)

-- the value of a column of this form that the text spells
unfoldable pub value_of : Form → List ℕ → Option Value
value_of (form.Number low high) s = ranged_of low high s
value_of (form.NullableNumber low high) s = null_or (is_null s) (ranged_of low high s)
value_of (form.Text least most) s = option_map (λ t. Text t) (text_within least most s)
value_of (form.Money most) s = option_map (λ n. Money n) (money_of most s)
value_of form.Balance s = option_map (λ z. Balance z) (balance_of s)
value_of form.Rate s = option_map (λ n. Rate n) (rate_of s)
value_of form.Credit s = option_map (λ c. Standing c) (credit_of s)
value_of form.Flag s = option_map (λ b. Flag b) (flag_of s)
value_of form.Stamp s = option_map (λ n. Stamp n) (stamp_at s)
value_of form.NullableStamp s = null_or (is_null s) (option_map (λ n. Stamp n) (stamp_at s))
