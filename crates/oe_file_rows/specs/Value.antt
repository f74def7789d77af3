-- The values of columns, and how a line may spell them (clause 1.3.1).
use Rattle.std.specs.Prelude.{◌≡◌, ℕ, ◌≤◌, ◌<◌, ◌⊎◌, Bool, ℤ, List, [], ◌∷◌, ◌++◌, codes, decimal, slice_set}
use Rattle.std.specs.List.{All}
use Rattle.std.specs.Int.{IsInRange}
use Rattle.oe_values.specs.Number.{IsWithin}
use Rattle.oe_values.specs.Text.{IsText}
use Rattle.oe_values.specs.declared.stamps.TheConstants.{SECONDS}
use Rattle.oe_rows.specs.declared.customers.Credit.{Credit}
use Rattle.oe_rows.specs.Credit.{money_text}
use Rattle.oe_texts.specs.Column.{balance_text, rate_text, credit_text, flag_text}
use Rattle.oe_texts.specs.Stamp.{stamp_text}
use Rattle.oe_file_rows.specs.declared.forms.Form.{Form}
use Rattle.oe_file_rows.specs.declared.forms.Form.TheVariants as form

-- the value of a column of any table
pub data Value : Type 0 where
  Null : Value
  Number : ℕ → Value
  Text : List ℕ → Value
  Money : ℕ → Value
  Balance : ℤ → Value
  Rate : ℕ → Value
  Standing : Credit → Value
  Flag : Bool → Value
  Stamp : ℕ → Value

-- a column of this form may have the value
abbrev pub IsOf : Form → Value → Type 0
IsOf (form.Number low high) (Number n) = IsInRange low high n
IsOf (form.NullableNumber low high) (Number n) = IsInRange low high n
IsOf (form.NullableNumber low high) Null = Unit {0}
IsOf (form.Text least most) (Text s) = IsText least most s
IsOf (form.Money most) (Money n) = n ≤ most
IsOf form.Balance (Balance z) = IsWithin 999_999_999_999 z
IsOf form.Rate (Rate n) = n ≤ 9_999
IsOf form.Credit (Standing c) = Unit {0}
IsOf form.Flag (Flag b) = Unit {0}
IsOf form.Stamp (Stamp n) = n < SECONDS
IsOf form.NullableStamp (Stamp n) = n < SECONDS
IsOf form.NullableStamp Null = Unit {0}
IsOf _ _ = ⊥

-- nothing, or a point and one or more zeros
abbrev pub IsNoFraction : List ℕ → Type 0
IsNoFraction [] = Unit {0}
IsNoFraction (b ∷ []) = ⊥
IsNoFraction (b ∷ c ∷ s) = (b ≡ 46) × (c ≡ 48) × All (λ d. d ≡ 48) s

-- the text of a stamp, with T or a blank between date and time, and behind it perhaps a fraction of zeros
pub record SpellsStamp (n : ℕ) (s : List ℕ) : Type 0 where
  pub front : List ℕ
  pub fraction : List ℕ
  pub whole : s ≡ front ++ fraction
  pub parted : (front ≡ stamp_text n) ⊎ (front ≡ slice_set (stamp_text n) 10 32)
  pub zeros : IsNoFraction fraction

-- the text spells the value; null is a minus sign, or a backslash and N
abbrev pub Spells : Value → List ℕ → Type 0
Spells Null s = (s ≡ codes "-") ⊎ (s ≡ 92 ∷ 78 ∷ [])
Spells (Number n) s = s ≡ decimal n
Spells (Text t) s = s ≡ t
Spells (Money n) s = s ≡ money_text n
Spells (Balance z) s = s ≡ balance_text z
Spells (Rate n) s = s ≡ rate_text n
Spells (Standing c) s = s ≡ credit_text c
Spells (Flag b) s = s ≡ flag_text b
Spells (Stamp n) s = SpellsStamp n s
