-- The text of a line, and what it says where it is no row.
use Rattle.std.specs.Prelude.{ℕ, ◌-◌, Bool, true, false, nat_lt, List, [], ◌∷◌, length, take, drop, codes}
use Rattle.std.specs.Prelude.{Option, Some, None, if◌then◌else◌}
use Rattle.std.specs.Str.{bytes_eq}
use Rattle.oe_fields.specs.Spelling.{◌>>=◌, number_of}

-- two texts are one
unfoldable pub is_word : List ℕ → List ℕ → Bool
is_word a b = bytes_eq a b

-- what follows the front
unfoldable pub after_of : List ℕ → List ℕ → Option (List ℕ)
after_of front s =
    if nat_lt (length s) (length front) then None
    else if is_word (take (length front) s) front then Some (drop (length front) s)
    else None

-- what stands before the end
unfoldable pub before_of : List ℕ → List ℕ → Option (List ℕ)
before_of end s =
    if nat_lt (length s) (length end) then None
    else if is_word (drop (length s - length end) s) end then Some (take (length s - length end) s)
    else None

abbrev pub behind_or : Option (List ℕ) → List ℕ → List ℕ
behind_or None s = s
behind_or (Some r) s = r

-- without the byte order mark before it
abbrev pub without_mark : List ℕ → List ℕ
without_mark line = behind_or (after_of (239 ∷ 187 ∷ 191 ∷ []) line) line

-- without the carriage return at its end
abbrev pub without_return : List ℕ → List ℕ
without_return line = behind_or (before_of (13 ∷ []) line) line

-- the text of a line
unfoldable pub text_of : (first : Bool) → List ℕ → List ℕ
text_of true line = without_return (without_mark line)
text_of false line = without_return line

-- a backslash and a point end the rows
unfoldable pub is_end : List ℕ → Bool
is_end text = is_word text (92 ∷ 46 ∷ [])

-- the number between these two texts
abbrev pub counted_by : List ℕ → List ℕ → List ℕ → Option ℕ
counted_by front end text = do
  r ← after_of front text
  s ← before_of end r
  number_of s

abbrev pub or_else : Option ℕ → Option ℕ → Option ℕ
or_else None q = q
or_else (Some n) q = Some n

-- how many rows a text says there are
unfoldable pub count_of : List ℕ → Option ℕ
count_of text =
    or_else (counted_by (codes "rows ") [] text)
    (or_else (counted_by (codes "(") (codes " rows)") text) (counted_by (codes "(") (codes " row)") text))
