-- A file that tells of replies: an opening, and a line for each reply.
use Rattle.std.specs.Prelude.{◌≡◌, ℕ, ◌+◌, ◌≤◌, ◌<◌, ◌==◌, ◌⊎◌, List, [], ◌∷◌, ◌++◌, length, take}
use Rattle.std.specs.Prelude.{Bool, true, false}
use Rattle.std.specs.Prelude.{codes, decimal, if◌then◌else◌}
use Rattle.std.specs.Int.{IsInRange}
use Rattle.std.specs.List.{join_with_byte}
use Rattle.oe_values.specs.declared.numbers.TheConstants.{TERMINALS}
use Rattle.oe_rows.specs.declared.scales.Scale.{Scale}
use Rattle.oe_requests.specs.declared.requests.Query.{Query}
use Rattle.oe_lines.specs.declared.commands.RingChoice.{RingChoice}
use Rattle.oe_lines.specs.declared.commands.Command.{Command}
use Rattle.oe_lines.specs.declared.commands.Command.TheVariants as command
use Rattle.oe_lines.specs.Grammar.{Says, IsQuery, query_words}
use Rattle.oe_lines.specs.Rings.{layout_words}
use Rattle.oe_reply_words.specs.Parts.{IsParted}
use Rattle.oe_file_serial.specs.declared.origins.Opening.{Opening}
use Rattle.oe_file_serial.specs.declared.origins.Opening.TheVariants as opening
use Rattle.oe_file_serial.specs.declared.lines.Asked.{Asked}
use Rattle.oe_file_serial.specs.declared.lines.Asked.TheVariants as asked
use Rattle.oe_reasons.specs.Reasons.{IsReason, IsTaken}
use Rattle.oe_file_serial.specs.declared.reasons.Behind.{Behind}
use Rattle.oe_file_serial.specs.declared.reasons.Behind.TheVariants as behind
use Rattle.oe_file_serial.specs.declared.reasons.Why.{Why}
use Rattle.oe_file_serial.specs.declared.reasons.Why.TheVariants as why
use Rattle.oe_file_serial.specs.declared.reasons.BadLine.{BadLine}
use Rattle.oe_file_serial.specs.declared.lines.BadLines.{BadLines}

-- the lines of a text, each without the byte 10 that ends it; `held` stands before the text in its first line
abbrev pub lines_from : List ℕ → List ℕ → List (List ℕ)
lines_from held [] = []
lines_from held (b ∷ bs) = if b == 10 then held ∷ lines_from [] bs else lines_from (held ++ b ∷ []) bs

abbrev pub lines_of : List ℕ → List (List ℕ)
lines_of text = lines_from [] text

-- what stands behind the last byte 10
abbrev pub last_from : List ℕ → List ℕ → List ℕ
last_from held [] = held
last_from held (b ∷ bs) = if b == 10 then last_from [] bs else last_from (held ++ b ∷ []) bs

abbrev pub last_of : List ℕ → List ℕ
last_of text = last_from [] text

-- ` => `, whose `=` is the line's first, stands between these words and this text
abbrev pub Parts : List ℕ → List ℕ → List ℕ → Type 0
Parts line words text = IsParted 61 line (words ++ codes " ") (codes "> " ++ text)

-- the words ask for this query, behind the number of a terminal
pub record AsksFor (words : List ℕ) (q : Query) : Type 0 where
  pub terminal : ℕ
  pub is_terminal : IsInRange 1 TERMINALS terminal
  pub is_query : IsQuery q
  pub spelled : words ≡ join_with_byte 32 (decimal terminal ∷ query_words q)

-- the words ask for that: a transaction in the words behind a script's `begin`, or a query
abbrev pub Asks : List ℕ → Asked → Type 0
Asks words (asked.Transaction t q) = Says (codes "begin " ++ words) (command.Begin t q)
Asks words (asked.Query q) = AsksFor words q

-- the line, without its end, tells what was asked for, and that it was answered this text
pub record Tells (line : List ℕ) (a : Asked) (text : List ℕ) : Type 0 where
  pub short : length line ≤ 1_024
  pub words : List ℕ
  pub parts : Parts line words text
  pub asks : Asks words a

-- it tells of some reply
abbrev pub IsTold : List ℕ → Type 0
IsTold line = (a : Asked) × (text : List ℕ) × Tells line a text

-- it opens that scale, with any undo ring
pub record Opens (line : List ℕ) (s : Scale) : Type 0 where
  pub short : length line ≤ 1_024
  pub ring : RingChoice
  pub says : Says line (command.Open s ring)

-- it opens an undo ring for tables that are there
pub record OpensRing (line : List ℕ) : Type 0 where
  pub short : length line ≤ 1_024
  pub ring : RingChoice
  pub extents : IsInRange 2 4_096 ring.extents
  pub spelled : line ≡ join_with_byte 32 (codes "open" ∷ decimal ring.extents ∷ layout_words ring.layout)

-- a first line of that kind
abbrev pub IsOpening : Opening → List ℕ → Type 0
IsOpening opening.OfScale line = (s : Scale) × Opens line s
IsOpening opening.OfRing line = OpensRing line

-- LINES OF NO FORM

-- What a bad line is read as, whole or in part: itself, while nothing is open; its words behind `begin`; of a query the
-- terminal behind `next`, and the words behind `read now`.
abbrev pub IsReadAs : List ℕ → Behind → List ℕ → Type 0
IsReadAs line behind.Nothing words = words ≡ line
IsReadAs line behind.Begin words = (text : List ℕ) × Parts line words text
IsReadAs line behind.Next word =
    (words : List ℕ) × (text : List ℕ) × (rest : List ℕ) × Parts line words text × IsParted 32 words word rest
IsReadAs line behind.ReadNow rest =
    (words : List ℕ) × (text : List ℕ) × (word : List ℕ) × Parts line words text × IsParted 32 words word rest

abbrev pub front_text : Behind → List ℕ
front_text behind.Nothing = []
front_text behind.Begin = codes "begin "
front_text behind.Next = codes "next "
front_text behind.ReadNow = codes "read now "

abbrev pub is_open_behind : Behind → Bool
is_open_behind behind.Nothing = false
is_open_behind b = true

-- why a line that is whole has no form: it is too long; nothing parts a request from its reply; the reason is true of
-- what the line is read as; or what it is read as has a form, but asks for something else
abbrev pub IsWhy : List ℕ → Why → Type 0
IsWhy line why.Long = 1_024 < length line
IsWhy line why.NoReply = (words : List ℕ) (text : List ℕ) → Parts line words text → ⊥
IsWhy line (why.Of b words r) =
    IsReadAs line b words.now × IsReason (is_open_behind b) (front_text b ++ words.now) r
IsWhy line (why.NoRequest b words) =
    IsReadAs line b words.now
    × ((c : Command) × IsTaken (is_open_behind b) (front_text b ++ words.now) c)
IsWhy line why.NoRing = OpensRing line → ⊥
IsWhy line why.Unended = ⊥

-- the same of words behind others, which are read
abbrev pub IsReadWhy : Behind → List ℕ → Why → Type 0
IsReadWhy b words (why.Of own w r) =
    (own ≡ b) × (w.now ≡ words) × IsReason (is_open_behind b) (front_text b ++ words) r
IsReadWhy b words (why.NoRequest own w) =
    (own ≡ b) × (w.now ≡ words) × ((c : Command) × IsTaken (is_open_behind b) (front_text b ++ words) c)
IsReadWhy b words w = ⊥

-- of the words of a line
abbrev pub IsWordsWhy : List ℕ → Why → Type 0
IsWordsWhy words w =
    IsReadWhy behind.Begin words w
    ⊎ ((word : List ℕ) × (rest : List ℕ) × IsParted 32 words word rest
    × (IsReadWhy behind.Next word w ⊎ IsReadWhy behind.ReadNow rest w))

-- the first line, where it opens nothing
abbrev pub Unopened : Opening → List ℕ → List BadLine → Type 0
Unopened o line bad =
    (IsOpening o line × (bad ≡ []))
    ⊎ ((IsOpening o line → ⊥)
    × ((b : BadLine) × (b.number ≡ 1) × IsWhy line b.why × (bad ≡ b ∷ [])))

-- of these lines, the first of which is the n-th, those that tell of no reply
abbrev pub Untold : ℕ → List (List ℕ) → List BadLine → Type 0
Untold n [] bad = bad ≡ []
Untold n (line ∷ lines) bad =
    (IsTold line × Untold (n + 1) lines bad)
    ⊎ ((IsTold line → ⊥)
    × ((b : BadLine) × (more : List BadLine) × (b.number ≡ n) × IsWhy line b.why × Untold (n + 1) lines more
    × (bad ≡ b ∷ more)))

-- a last line without its end, which would be the n-th
abbrev pub last_line_fault : ℕ → List ℕ → List BadLine
last_line_fault n [] = []
last_line_fault n (b ∷ bs) = record { number = n; why = why.Unended } ∷ []

-- all lines that have no form, in order; a file without a line has no opening
abbrev pub AreBadOf : Opening → List (List ℕ) → List ℕ → List BadLine → Type 0
AreBadOf o [] [] bad = Unopened o [] bad
AreBadOf o [] (b ∷ bs) bad = bad ≡ last_line_fault 1 (b ∷ bs)
AreBadOf o (line ∷ lines) last bad =
    (first more : List BadLine) × Unopened o line first × Untold 2 lines more
    × (bad ≡ first ++ more ++ last_line_fault (length lines + 2) last)

abbrev pub AreBad : Opening → List ℕ → List BadLine → Type 0
AreBad o input bad = AreBadOf o (lines_of input) (last_of input) bad

-- the first twenty of them, and how many they are
pub record Shows (shown : BadLines) (bad : List BadLine) : Type 0 where
  pub first : shown.first.items ≡ take 20 bad
  pub count : shown.count ≡ length bad
