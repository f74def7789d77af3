-- A value at the front of what is left of a line.
use Rattle.std.specs.Prelude.{false, ◌≡◌, ℕ, ℤ, ◌<◌, List, ◌∷◌, length, Option, Some}
use Rattle.std.specs.Option.{IfSome}
use Rattle.oe_fields.specs.declared.fields.Format.{Format}
use Rattle.oe_fields.specs.Parting.{parted_from, left_of, text_of}
use Rattle.oe_fields.specs.Spelling.{number_of, amount_of}

-- these bytes begin with a field whose text spells the value, and this is left behind it
pub record BeginsWith {A : Type 0} (spells : List ℕ → Option A) (format : Format) (s : List ℕ) (v : A)
    (left : Option (List ℕ)) : Type 0 where
  pub field : List ℕ
  pub parted : parted_from format false s ≡ field ∷ left_of format left
  pub spelled : spells (text_of format field) ≡ Some v
  pub short : IfSome left (λ t. length t < length s)

abbrev pub BeginsWithNumber : Format → List ℕ → ℕ → Option (List ℕ) → Type 0
BeginsWithNumber = BeginsWith number_of

abbrev pub BeginsWithAmount : Format → List ℕ → ℤ → Option (List ℕ) → Type 0
BeginsWithAmount = BeginsWith amount_of
