-- Parts of texts between marks.
use Rattle.std.specs.Prelude.{◌≡◌, ◌≢◌, ℕ, ◌==◌, All, Bool, List, [], ◌∷◌, ◌++◌, get_or, Option, Some, None}
use Rattle.std.specs.Prelude.{if◌then◌else◌}
use Rattle.std.specs.Str.{bytes_eq}

-- the byte stands nowhere
abbrev pub IsWithout : ℕ → List ℕ → Type 0
IsWithout mark bytes = All (λ b. b ≢ mark) bytes

-- it parts the bytes where it stands first
pub record IsParted (mark : ℕ) (bytes before behind : List ℕ) : Type 0 where
  pub whole : bytes ≡ before ++ mark ∷ behind
  pub first : IsWithout mark before

-- the parts of a text between marks; `held` stands before the text in its first part
abbrev pub parts_from : ℕ → List ℕ → List ℕ → List (List ℕ)
parts_from m held [] = held ∷ []
parts_from m held (b ∷ bs) = if b == m then held ∷ parts_from m [] bs else parts_from m (held ++ b ∷ []) bs

abbrev pub parts_of : ℕ → List ℕ → List (List ℕ)
parts_of m text = parts_from m [] text

-- those of what stands behind the first mark, if there is one
abbrev pub parts_behind : ℕ → Option (List ℕ) → List (List ℕ)
parts_behind m None = []
parts_behind m (Some rest) = parts_of m rest

-- two texts are one; it stays closed
unfoldable pub is_same : List ℕ → List ℕ → Bool
is_same a b = bytes_eq a b

-- the first part, or nothing where there is none
abbrev pub first_word : List (List ℕ) → List ℕ
first_word [] = []
first_word (w ∷ ws) = w

-- the part at a place from 0, or nothing where there is none
abbrev pub word_at : ℕ → ℕ → List ℕ → List ℕ
word_at m n text = get_or (parts_of m text) n []
