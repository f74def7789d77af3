-- Texts of a column (clause 1.3.1), and names in a request.
use Rattle.std.specs.Prelude.{ℕ, ◌≤◌, ◌⊎◌, ◌==◌, ◌&&◌, ◌||◌, Bool, true, false, List, [], ◌∷◌, length}
use Rattle.std.specs.List.{All}

-- a printable ASCII byte
abbrev pub IsPrintable : ℕ → Type 0
IsPrintable b = (32 ≤ b) × (b ≤ 126)

-- a letter from A to Z
abbrev pub IsCapital : ℕ → Type 0
IsCapital b = (65 ≤ b) × (b ≤ 90)

-- a letter from A to Z or a digit
abbrev pub IsCapitalOrDigit : ℕ → Type 0
IsCapitalOrDigit b = IsCapital b ⊎ ((48 ≤ b) × (b ≤ 57))

-- a text of printable bytes, whose length lies from `least` to `most`
pub record IsText (least most : ℕ) (bytes : List ℕ) : Type 0 where
  pub at_least : least ≤ length bytes
  pub at_most : length bytes ≤ most
  pub printable : All IsPrintable bytes

-- 1 to 16 letters from A to Z
pub record IsLastName (bytes : List ℕ) : Type 0 where
  pub at_least : 1 ≤ length bytes
  pub at_most : length bytes ≤ 16
  pub capitals : All IsCapital bytes

-- 1 to 16 letters from A to Z or digits
pub record IsFirstName (bytes : List ℕ) : Type 0 where
  pub at_least : 1 ≤ length bytes
  pub at_most : length bytes ≤ 16
  pub capitals_or_digits : All IsCapitalOrDigit bytes

-- the first text stands at the front of the second
abbrev pub begins_with : List ℕ → List ℕ → Bool
begins_with [] ys = true
begins_with (x ∷ xs) [] = false
begins_with (x ∷ xs) (y ∷ ys) = (x == y) && begins_with xs ys

-- the first text stands in the second
abbrev pub occurs_in : List ℕ → List ℕ → Bool
occurs_in xs [] = begins_with xs []
occurs_in xs (y ∷ ys) = begins_with xs (y ∷ ys) || occurs_in xs ys
