-- The lines of a source's bytes, and what took them.
use Rattle.std.specs.Prelude.{◌≡◌, ◌≢◌, ℕ, ◌<◌, ◌≤◌, Bool, true, false, All, List, [], ◌∷◌, ◌++◌, length, ⊤}
use Rattle.std.specs.Prelude.{Option, Some, None}
use Rattle.std.specs.List.{flat_map}

-- byte 10 ends a line
abbrev pub IsInLine : List ℕ → Type 0
IsInLine line = All (λ b. b ≢ 10) line

abbrev pub with_line_end : List ℕ → List ℕ
with_line_end line = line ++ 10 ∷ []

-- the last line may lack its end
abbrev pub with_last : List (List ℕ) → List ℕ → List (List ℕ)
with_last ls [] = ls
with_last ls (b ∷ s) = ls ++ (b ∷ s) ∷ []

-- the bytes are these lines
pub record AreLines (bytes : List ℕ) (lines : List (List ℕ)) : Type 0 where
  pub whole : List (List ℕ)
  pub last : List ℕ
  pub bytes_are : bytes ≡ flat_map with_line_end whole ++ last
  pub each : All IsInLine whole
  pub tail : IsInLine last
  pub lines_are : lines ≡ with_last whole last

-- these were all bytes that a reader had left, where it tells them
abbrev pub AreAll : Option (List ℕ) → Option (List ℕ) → List ℕ → Type 0
AreAll None new bytes = ⊤
AreAll (Some a) None bytes = ⊥
AreAll (Some a) (Some b) bytes = (a ≡ bytes) × (b ≡ [])

-- what is held of a line: its bytes so far, or that they are too many
abbrev pub Held : Type 0
Held = Option (List ℕ)

-- the bytes of a line so far: held whole while they fit, and only known to be too many afterwards
abbrev pub Holds : (longest : ℕ) → Held → List ℕ → Type 0
Holds longest (Some held) line = (held ≡ line) × (length line ≤ longest)
Holds longest None line = longest < length line

-- what is held where the bytes are these, or were too many
abbrev pub held_of : List ℕ → (over : Bool) → Held
held_of bytes false = Some bytes
held_of bytes true = None

module _ {T : Type 0} (longest : ℕ) (taken : List (List ℕ) → T → Type 0) where
  -- the lines of this input were taken, and the beginning of the next is held
  pub record Standing (input : List ℕ) (held : Held) (now : T) : Type 0 where
    pub lines : List (List ℕ)
    pub line : List ℕ
    pub whole : input ≡ flat_map with_line_end lines ++ line
    pub each : All IsInLine lines
    pub tail : IsInLine line
    pub stands : taken lines now
    pub holds : Holds longest held line

module _ {T : Type 0} (taken : List (List ℕ) → T → Type 0) where
  -- all lines of this input were taken
  abbrev pub Finished : List ℕ → T → Type 0
  Finished input now = (lines : List (List ℕ)) × AreLines input lines × taken lines now

  -- a source was read to its end, and all lines of its bytes were taken
  abbrev pub LinesRead : Option (List ℕ) → Option (List ℕ) → T → Type 0
  LinesRead old new now = (bytes : List ℕ) × AreAll old new bytes × Finished bytes now
