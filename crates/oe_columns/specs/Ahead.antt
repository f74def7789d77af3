-- Numbers that are read with a row.
use Rattle.std.specs.Prelude.{◌≡◌, ℕ, List, [], ◌∷◌, slice_get, Some}
use Rattle.oe_fields.specs.Spelling.{number_in}

-- these are the numbers of the first columns, which stand at these places
abbrev pub AreFirst : (fields : List (List ℕ)) → (places numbers : List ℕ) → Type 0
AreFirst fields places [] = Unit {0}
AreFirst fields [] (n ∷ ns) = ⊥
AreFirst fields (p ∷ places) (n ∷ ns) = (Some n ≡ number_in (slice_get fields p)) × AreFirst fields places ns
