-- Where the fields of a line are parted, and their texts.
use Rattle.std.specs.Prelude.{ℕ, suc, ◌-◌, ◌==◌, ◌&&◌, Bool, false, not, List, [], ◌∷◌, length, map}
use Rattle.std.specs.Prelude.{slice_index, slice_range, nat_le, Option, Some, None, if◌then◌else◌}
use Rattle.oe_fields.specs.declared.fields.Format.{Format}
use Rattle.oe_fields.specs.declared.fields.Format.TheVariants.{Tabs, Commas}

-- the byte that parts two fields
abbrev pub separator : Format → ℕ
separator Tabs = 9
separator Commas = 44

-- a backslash, or a quote
abbrev pub mark : Format → ℕ
mark Tabs = 92
mark Commas = 34

-- Whether the next byte is held: a backslash holds one byte, and a quote all bytes up to the next quote.
abbrev pub held_behind : Format → Bool → ℕ → Bool
held_behind Tabs held b = not held && (b == 92)
held_behind Commas held b = if b == 34 then not held else held

-- a separator that is not held parts two fields
abbrev pub parts : Format → Bool → ℕ → Bool
parts format held b = not held && (b == separator format)

abbrev pub before_first : ℕ → List (List ℕ) → List (List ℕ)
before_first b [] = []
before_first b (f ∷ fs) = (b ∷ f) ∷ fs

-- the fields that are left
abbrev pub parted_from : Format → (held : Bool) → List ℕ → List (List ℕ)
parted_from format held [] = [] ∷ []
parted_from format held (b ∷ s) =
    if parts format held b
    then [] ∷ parted_from format false s
    else before_first b (parted_from format (held_behind format held b) s)

-- the fields of a line, as they stand
abbrev pub parted_of : Format → List ℕ → List (List ℕ)
parted_of format line = parted_from format false line

-- begins and ends with a quote
abbrev pub is_quoted : List ℕ → Bool
is_quoted s = nat_le 2 (length s) && ((slice_index s 0 == 34) && (slice_index s (length s - 1) == 34))

-- the text of a field, without the quotes that it stands in
unfoldable pub text_of : Format → List ℕ → List ℕ
text_of Tabs s = s
text_of Commas s = if is_quoted s then slice_range s 1 (length s - 1) else s

-- the texts of a line's fields
unfoldable pub fields_of : Format → List ℕ → List (List ℕ)
fields_of format line = map (text_of format) (parted_of format line)

-- ---- how they are found

-- a line, and the place of the field that is taken next
pub record Line : Type 0 where
  pub format : Format
  pub text : List ℕ
  pub place : ℕ

-- the fields of what is left of a line
abbrev pub left_of : Format → Option (List ℕ) → List (List ℕ)
left_of format None = []
left_of format (Some s) = parted_from format false s

-- the length of the field at the front
abbrev pub end_from : Format → (held : Bool) → List ℕ → ℕ
end_from format held [] = 0
end_from format held (b ∷ s) =
    if parts format held b then 0 else suc (end_from format (held_behind format held b) s)
