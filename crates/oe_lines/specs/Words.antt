-- Reading a word from the front, as functions on lists: what the word says, and what follows it.
use Rattle.std.specs.Prelude.{ℕ, ◌+◌, ◌-◌, ◌*◌, ◌==◌, ◌&&◌, ◌||◌, Bool, nat_le, nat_lt, List, [], ◌∷◌, length, take}
use Rattle.std.specs.Prelude.{drop, position, Option, Some, None, slice_index, codes, if◌then◌else◌, pos, ◌+ℤ◌, ◌*ℤ◌}
use Rattle.std.specs.Prelude.{unsigned_abs}
use Rattle.std.specs.List.{list_all}
use Rattle.std.specs.Str.{bytes_eq}
use Rattle.jiff_core.specs.Calendar.{days_from_civil}
use Rattle.oe_texts.specs.Stamp.{stamp_text}
use Rattle.oe_values.specs.Front.{◌>>=◌, after_of, pair_of, decimal_of, alone}
use Rattle.oe_values.specs.declared.stamps.TheConstants.{SECONDS}

-- two texts are one; it stays closed in the dispatch on a word
unfoldable pub is_word : List ℕ → List ℕ → Bool
is_word a b = bytes_eq a b

abbrev pub within : ℕ → ℕ → ℕ → Option ℕ
within low high n = if nat_le low n && nat_le n high then Some n else None

-- a number in the range
unfoldable pub number_of : ℕ → ℕ → List ℕ → Option (ℕ × List ℕ)
number_of low high s = do
  p ← decimal_of s
  n ← within low high p.0
  Some (n, p.1)

-- a number before a byte, which is passed over
unfoldable pub number_then : ℕ → ℕ → ℕ → List ℕ → Option (ℕ × List ℕ)
number_then mark low high s = do
  p ← number_of low high s
  r ← after_of (mark ∷ []) p.1
  Some (p.0, r)

-- before a space
abbrev pub number_before : ℕ → ℕ → List ℕ → Option (ℕ × List ℕ)
number_before low high s = number_then 32 low high s

-- a number at the end
unfoldable pub last_number : ℕ → ℕ → List ℕ → Option ℕ
last_number low high s = do
  p ← number_of low high s
  alone p.0 p.1

-- money with two decimals before a space, which is passed over, as cents in the range
unfoldable pub amount_before : ℕ → ℕ → List ℕ → Option (ℕ × List ℕ)
amount_before low high s = do
  w ← decimal_of s
  a ← after_of (codes ".") w.1
  d ← pair_of a
  n ← within low high (w.0 * 100 + d.0)
  r ← after_of (codes " ") d.1
  Some (n, r)

-- the number that the two bytes from `at` on spell as digits
abbrev pub pair_at : ℕ → List ℕ → ℕ
pair_at at s = (slice_index s at - 48) * 10 + (slice_index s (at + 1) - 48)

-- the seconds that a stamp's text counts
unfoldable pub stamp_seconds : List ℕ → ℕ
stamp_seconds s =
    unsigned_abs
    (days_from_civil (pos (pair_at 0 s * 100 + pair_at 2 s)) (pair_at 5 s) (pair_at 8 s) *ℤ pos 86_400
    +ℤ pos (pair_at 11 s * 3600 + pair_at 14 s * 60 + pair_at 17 s) +ℤ pos 2_208_988_800)

-- the stamp whose text this is
unfoldable pub stamp_of : List ℕ → Option ℕ
stamp_of s = let n = stamp_seconds s in if nat_lt n SECONDS && bytes_eq (stamp_text n) s then Some n else None

-- a stamp in the first 19 bytes before a space, which is passed over
unfoldable pub stamp_before : List ℕ → Option (ℕ × List ℕ)
stamp_before s =
    if nat_lt (length s) 19 then None
    else do
      n ← stamp_of (take 19 s)
      r ← after_of (codes " ") (drop 19 s)
      Some (n, r)

-- a letter from A to Z
abbrev pub is_capital : ℕ → Bool
is_capital b = nat_le 65 b && nat_le b 90

-- 1 to 16 letters from A to Z
unfoldable pub last_name_of : List ℕ → Option (List ℕ)
last_name_of s = if (nat_le 1 (length s) && nat_le (length s) 16) && list_all is_capital s then Some s else None

-- a letter from A to Z or a digit
abbrev pub is_capital_or_digit : ℕ → Bool
is_capital_or_digit b = is_capital b || (nat_le 48 b && nat_le b 57)

-- 1 to 16 letters from A to Z or digits
unfoldable pub first_name_of : List ℕ → Option (List ℕ)
first_name_of s =
    if (nat_le 1 (length s) && nat_le (length s) 16) && list_all is_capital_or_digit s then Some s else None

-- a last name before the first space, which is passed over
unfoldable pub name_before : List ℕ → Option (List ℕ × List ℕ)
name_before s = do
  n ← position (λ b. b == 32) s
  name ← last_name_of (take n s)
  r ← after_of (codes " ") (drop n s)
  Some (name, r)
