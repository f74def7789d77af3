-- The values that a field may spell, as databases print them.
use Rattle.std.specs.Prelude.{ℕ, ◌+◌, ◌-◌, ◌*◌, ◌^◌, ◌==◌, ◌&&◌, ◌||◌, Bool, true, false, ℤ, pos, neg_ℤ, nat_le}
use Rattle.std.specs.Prelude.{nat_lt, List, [], ◌∷◌, length, codes, Option, Some, None, if◌then◌else◌}
use Rattle.std.specs.Char.{is_ascii_digit}
use Rattle.std.specs.List.{list_all}
use Rattle.std.specs.Str.{bytes_eq}

infixl 10 ◌>>=◌
abbrev pub ◌>>=◌ : {A B : Type 0} → Option A → (A → Option B) → Option B
None >>= f = None
(Some x) >>= f = f x

-- ---- digits

-- the digits at the front
abbrev pub digits_of : List ℕ → List ℕ
digits_of [] = []
digits_of (b ∷ s) = if is_ascii_digit b then b ∷ digits_of s else []

-- what is left behind them
abbrev pub behind_digits : List ℕ → List ℕ
behind_digits [] = []
behind_digits (b ∷ s) = if is_ascii_digit b then behind_digits s else b ∷ s

-- the sum of the digits, each times its power of ten
abbrev pub sum_of_digits : List ℕ → ℕ
sum_of_digits [] = 0
sum_of_digits (d ∷ s) = (d - 48) * 10 ^ length s + sum_of_digits s

-- the number that the digits at the front spell, up to 2^64 - 1, and what is left behind them
unfoldable pub whole_of : List ℕ → Option (ℕ × List ℕ)
whole_of s =
    if nat_lt (sum_of_digits (digits_of s)) (2 ^ 64)
    then Some (sum_of_digits (digits_of s), behind_digits s)
    else None

abbrev pub begins_with_digit : List ℕ → Bool
begins_with_digit [] = false
begins_with_digit (b ∷ s) = is_ascii_digit b

-- ---- decimals

-- the decimals: nothing, or what stands behind a point
abbrev pub decimals_of : List ℕ → Option (List ℕ)
decimals_of [] = Some []
decimals_of (b ∷ d) = if b == 46 then Some d else None

abbrev pub are_zeros : List ℕ → Bool
are_zeros s = list_all (λ d. d == 48) s

-- the hundredths that decimals spell: the first two count, and those behind them are zeros
abbrev pub hundredths_of : List ℕ → Option ℕ
hundredths_of [] = Some 0
hundredths_of (a ∷ []) = if is_ascii_digit a then Some ((a - 48) * 10) else None
hundredths_of (a ∷ b ∷ z) =
    if is_ascii_digit a && (is_ascii_digit b && are_zeros z) then Some ((a - 48) * 10 + (b - 48)) else None

-- ---- values

-- two texts are one
unfoldable pub is_word : List ℕ → List ℕ → Bool
is_word a b = bytes_eq a b

-- a whole number: digits, and perhaps a point and zeros
unfoldable pub number_of : List ℕ → Option ℕ
number_of s =
    if begins_with_digit s
    then (do
      w ← whole_of s
      d ← decimals_of w.1
      if are_zeros d then Some w.0 else None)
    else None

-- what the text of a field spells, if it is there
abbrev pub value_in : {A : Type 0} → (List ℕ → Option A) → Option (List ℕ) → Option A
value_in spells None = None
value_in spells (Some s) = spells s

-- the whole number of a field, if it is there
abbrev pub number_in : Option (List ℕ) → Option ℕ
number_in field = value_in number_of field

-- up to 10^15
abbrev pub within_most : ℕ → Option ℕ
within_most n = if nat_le n (10 ^ 15) then Some n else None

-- an amount in cents: digits before a point or behind it, or both
unfoldable pub cents_of : List ℕ → Option ℕ
cents_of s =
    if length s == 0 || is_word s (codes ".")
    then None
    else (do
      w ← whole_of s
      d ← decimals_of w.1
      h ← hundredths_of d
      within_most (w.0 * 100 + h))

-- whether a minus sign stands in front, and what is left behind it
abbrev pub sign_of : List ℕ → Bool × List ℕ
sign_of [] = (false, [])
sign_of (b ∷ s) = if b == 45 then (true, s) else (false, b ∷ s)

abbrev pub signed_of : Bool → ℕ → ℤ
signed_of minus n = if minus then neg_ℤ (pos n) else pos n

-- a whole number, which may stand behind a minus sign
unfoldable pub quantity_of : List ℕ → Option ℤ
quantity_of s = do
  n ← number_of (sign_of s).1
  m ← within_most n
  Some (signed_of (sign_of s).0 m)

-- an amount in cents, which may stand behind a minus sign
unfoldable pub amount_of : List ℕ → Option ℤ
amount_of s = do
  n ← cents_of (sign_of s).1
  Some (signed_of (sign_of s).0 n)

-- the amount of a field, if it is there
abbrev pub amount_in : Option (List ℕ) → Option ℤ
amount_in field = value_in amount_of field

-- nothing, a minus sign, a backslash and N, or the word
unfoldable pub is_null : List ℕ → Bool
is_null s = (length s == 0) || (is_word s (codes "-") || (is_word s (92 ∷ 78 ∷ []) || is_word s (codes "NULL")))

unfoldable pub flag_of : List ℕ → Option Bool
flag_of s =
    if is_word s (codes "1") || (is_word s (codes "t") || is_word s (codes "true")) then Some true
    else if is_word s (codes "0") || (is_word s (codes "f") || is_word s (codes "false")) then Some false
    else None

-- ---- how digits are read

-- the number behind one digit more, where 64 bits hold it
unfoldable pub more_of : ℕ → ℕ → Option ℕ
more_of n d = if nat_lt (n * 10 + (d - 48)) (2 ^ 64) then Some (n * 10 + (d - 48)) else None

-- the number that goes on with the digits at the front, and what is left behind them
abbrev pub digits_from : ℕ → List ℕ → Option (ℕ × List ℕ)
digits_from n [] = Some (n, [])
digits_from n (b ∷ s) =
    if is_ascii_digit b then (more_of n b >>= λ m. digits_from m s) else Some (n, b ∷ s)

-- a point and two decimals at the front: their hundredths, and what is left behind them
abbrev pub two_decimals_of : List ℕ → Option (ℕ × List ℕ)
two_decimals_of [] = None
two_decimals_of (p ∷ []) = None
two_decimals_of (p ∷ a ∷ []) = None
two_decimals_of (p ∷ a ∷ b ∷ s) =
    if p == 46 && (is_ascii_digit a && is_ascii_digit b) then Some ((a - 48) * 10 + (b - 48), s) else None
