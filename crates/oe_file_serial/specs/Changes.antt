-- Which line changed a row last.
use Rattle.std.specs.Prelude.{◌≡◌, ℕ, ◌+◌, ◌⊎◌, All, List, ◌∷◌, ◌++◌, length, IsTrue, Option, None, Some}
use Rattle.oe_rows.specs.declared.keys.Key.{Key}
use Rattle.oe_requests.specs.declared.requests.Request.{Request}
use Rattle.oe_reply_words.specs.Rows.{changes}
use Rattle.oe_reply_words.specs.Told.{row_told}
use Rattle.oe_reply_words.specs.declared.rows.Change.{Change}
use Rattle.oe_file_serial.specs.declared.lines.Asked.{Asked}
use Rattle.oe_file_serial.specs.declared.lines.Asked.TheVariants as asked
use Rattle.oe_file_serial.specs.Files.{Tells}

-- the line tells of a transaction of that request, and that it was answered this text
abbrev pub TellsTransaction : List ℕ → Request → List ℕ → Type 0
TellsTransaction line q text = (t : ℕ) × Tells line (asked.Transaction t q) text

-- that transaction changed the row
abbrev pub ChangesRow : List ℕ → Key → Type 0
ChangesRow line k = (q : Request) × (text : List ℕ) × TellsTransaction line q text × IsTrue (changes q text k)

abbrev pub KeepsRow : List ℕ → Key → Type 0
KeepsRow line k = ChangesRow line k → ⊥

-- a line keeps a row, and so its last change, or changes the row itself
abbrev pub IsLater : List ℕ → Key → ℕ → Option Change → Option Change → Type 0
IsLater line k n last next =
    (KeepsRow line k × (next ≡ last)) ⊎ (ChangesRow line k × (next ≡ Some (record { row = k; line = n })))

-- the line of the change's number is the last of these lines that changed the row; the opening is line 1
pub record IsLastChange (lines : List (List ℕ)) (k : Key) (c : Change) : Type 0 where
  pub before : List (List ℕ)
  pub line : List ℕ
  pub behind : List (List ℕ)
  pub lines_are : lines ≡ before ++ line ∷ behind
  pub change_is : c ≡ record { row = k; line = length before + 2 }
  pub changed : ChangesRow line k
  pub none_behind : All (λ l. KeepsRow l k) behind

-- that, or none of these lines changed the row
abbrev pub IsLast : List (List ℕ) → Key → Option Change → Type 0
IsLast lines k None = All (λ l. KeepsRow l k) lines
IsLast lines k (Some c) = IsLastChange lines k c

-- the same of a row that is told, where one is
abbrev pub IsLastOf : List (List ℕ) → Option Key → Option Change → Type 0
IsLastOf lines None last = last ≡ None
IsLastOf lines (Some k) last = IsLast lines k last

-- the row that the first word which differs tells of; the answer to a query tells of none
abbrev pub row_told_of : Asked → List ℕ → List ℕ → Option Key
row_told_of (asked.Transaction t q) theirs ours = row_told q theirs ours
row_told_of (asked.Query q) theirs ours = None

-- what is told of a line that differs: the last change, by the lines before it, of the row that its first word which
-- differs tells of
abbrev pub IsHint : List (List ℕ) → List ℕ → List ℕ → Option Change → Type 0
IsHint before line ours last =
    (a : Asked) × (theirs : List ℕ) × Tells line a theirs × IsLastOf before (row_told_of a theirs ours) last
