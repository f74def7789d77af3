-- The value of a column at the front of bytes, and those behind it.
use Rattle.std.specs.Prelude.{◌==◌, ◌||◌, ◌&&◌, ℕ, ℤ, Bool, true, false, not, pos, neg_ℤ, int_lt, nat_le, List, [], ◌∷◌}
use Rattle.std.specs.Prelude.{length, get_or, Option, None, Some, if◌then◌else◌}
use Rattle.std.specs.List.{list_all}
use Rattle.std.specs.Int.{w64, cast_signed}
use Rattle.oe_extent.specs.Images.{number_at, run_at}
use Rattle.oe_rows.specs.declared.customers.Credit.{Credit}
use Rattle.oe_rows.specs.declared.customers.Credit.TheVariants.{Good, Bad}
use Rattle.oe_decode.specs.Fronts.{◌>>=◌, front_where, front_as, pair_at, ranged_at}

abbrev pub is_within : ℕ → ℤ → Bool
is_within n z = not (int_lt z (neg_ℤ (pos n))) && not (int_lt (pos n) z)

abbrev pub balance_at : List ℕ → Option (ℤ × List ℕ)
balance_at bytes = front_where (is_within 999_999_999_999) (front_as (cast_signed w64) (number_at 8 bytes))

abbrev pub is_printable : ℕ → Bool
is_printable b = nat_le 32 b && nat_le b 126

abbrev pub is_text : ℕ → ℕ → List ℕ → Bool
is_text least most bytes =
    nat_le least (length bytes) && (nat_le (length bytes) most && list_all is_printable bytes)

-- these bytes, where they are a text
abbrev pub text_within : ℕ → ℕ → List ℕ → Option (List ℕ)
text_within least most bytes = if is_text least most bytes then Some bytes else None

abbrev pub text_at : ℕ → ℕ → List ℕ → Option (List ℕ × List ℕ)
text_at least most bytes = number_at 2 bytes >>= λ n. front_where (is_text least most) (run_at n.0 n.1)

abbrev pub present : {X : Type 0} → Option (X × List ℕ) → Option (Option X × List ℕ)
present None = None
present (Some x) = Some (Some x.0, x.1)

abbrev pub column_by_mark : {X : Type 0} → (List ℕ → Option (X × List ℕ)) → ℕ → List ℕ
    → Option (Option X × List ℕ)
column_by_mark at n rest =
    if n == 0 then Some (None, rest) else (if n == 1 then present (at rest) else None)

abbrev pub optional_at : {X : Type 0} → (List ℕ → Option (X × List ℕ)) → List ℕ
    → Option (Option X × List ℕ)
optional_at at bytes = number_at 1 bytes >>= λ n. column_by_mark at n.0 n.1

-- O_CARRIER_ID
abbrev pub carrier_at : List ℕ → Option (Option ℕ × List ℕ)
carrier_at bytes = optional_at (ranged_at 1 1 10) bytes

-- a stamp, in seconds since 1900, up to the end of 2100
abbrev pub stamp_at : List ℕ → Option (ℕ × List ℕ)
stamp_at bytes = ranged_at 8 0 6_342_969_599 bytes

-- OL_DELIVERY_D
abbrev pub delivery_at : List ℕ → Option (Option ℕ × List ℕ)
delivery_at bytes = optional_at stamp_at bytes

abbrev pub flag_by : ℕ → List ℕ → Option (Bool × List ℕ)
flag_by n rest = if n == 0 then Some (false, rest) else (if n == 1 then Some (true, rest) else None)

abbrev pub flag_at : List ℕ → Option (Bool × List ℕ)
flag_at bytes = number_at 1 bytes >>= λ n. flag_by n.0 n.1

abbrev pub is_credit : List ℕ → Bool
is_credit [] = false
is_credit (a ∷ bytes) = (a == 71 || a == 66) && get_or bytes 0 0 == 67

abbrev pub credit_of : List ℕ → Credit
credit_of bytes = if get_or bytes 0 0 == 71 then Good else Bad

unfoldable pub credit_at : List ℕ → Option (Credit × List ℕ)
credit_at bytes = front_as credit_of (front_where is_credit (text_at 2 2 bytes))

unfoldable pub ten_texts_at : List ℕ → Option (List (List ℕ) × List ℕ)
ten_texts_at bytes =
    front_as
    (λ p. p.0 ∷ p.1.0 ∷ p.1.1.0 ∷ p.1.1.1.0 ∷ p.1.1.1.1.0 ∷ p.1.1.1.1.1.0 ∷ p.1.1.1.1.1.1.0
    ∷ p.1.1.1.1.1.1.1.0 ∷ p.1.1.1.1.1.1.1.1.0 ∷ p.1.1.1.1.1.1.1.1.1 ∷ [])
    (pair_at (text_at 24 24) (pair_at (text_at 24 24)
    (pair_at (text_at 24 24) (pair_at (text_at 24 24) (pair_at (text_at 24 24)
    (pair_at (text_at 24 24) (pair_at (text_at 24 24)
    (pair_at (text_at 24 24) (pair_at (text_at 24 24) (text_at 24 24))))))))) bytes)
