-- The lines of a file, and what each of them is: a row, a count of the rows before it, or a fault.
use Rattle.std.specs.Prelude.{◌≡◌, ◌≢◌, ℕ, ◌+◌, ◌<◌, Bool, true, false, List, [], ◌∷◌, ◌++◌}
use Rattle.std.specs.Prelude.{length}
use Rattle.std.specs.Prelude.{codes, ⊤, Option, Some, None}
use Rattle.oe_rows.specs.declared.keys.Table.{Table}
use Rattle.oe_values.specs.Front.{◌>>=◌, after_of, decimal_of, alone}
use Rattle.oe_io.specs.Ports.{Source}
use Rattle.oe_filelines.specs.Lines.{AreLines}
use Rattle.oe_file_tables.specs.declared.faults.TableFault.{TableFault}
use Rattle.oe_file_tables.specs.declared.faults.Wrong.{Wrong}
use Rattle.oe_file_tables.specs.declared.faults.Wrong.TheVariants as wrong
use Rattle.oe_file_tables.specs.declared.formats.Format.{Format}
use Rattle.oe_file_tables.specs.declared.formats.Format.TheVariants as written
use Rattle.oe_file_tables.specs.declared.lines.Numbered.{Numbered}
use Rattle.oe_file_tables.specs.Fault.{Told, in_64_bits, with_faults}
use Rattle.oe_file_tables.specs.Format.{is_returned, text_in, heads, null_place, spelled_as}
use Rattle.oe_file_tables.specs.Record.{line_of}

-- how many rows `rows N` says there are
unfoldable pub said_of : List ℕ → Option ℕ
said_of line = do
  r ← after_of (codes "rows ") line
  p ← decimal_of r
  alone p.0 p.1

-- these were all bytes of a reader that tells them, and no call failed
abbrev pub AreAll : Option Source → Option Source → List ℕ → Type 0
AreAll None new bytes = ⊤
AreAll (Some a) None bytes = ⊥
AreAll (Some a) (Some b) bytes = (a.remaining ≡ bytes) × (b.remaining ≡ []) × (b.failures ≡ a.failures)

-- how many lines stand before a count that are no rows, and the count itself
abbrev pub beside_rows : (headed : Bool) → ℕ
beside_rows false = 1
beside_rows true = 2

module _ {K X : Type 0} (format : Format) (spells : ℕ → List ℕ → K × X → Type 0) (table : Table) where
  -- the n-th line spells a row
  abbrev pub Spelled : ℕ → List ℕ → K × X → Type 0
  Spelled n line r = spelled_as format table spells n (text_in format line) r

  -- what is wrong with the n-th line, where a count came before it or not, and a heading
  abbrev pub IsWrong : (counted headed : Bool) → ℕ → List ℕ → Wrong → Type 0
  IsWrong counted headed n line (wrong.NoRow f) =
      (heads format n (text_in format line) ≡ false) × ((r : K × X) → Spelled n line r → ⊥)
  IsWrong counted headed n line wrong.NoRecord =
      (heads format n (text_in format line) ≡ false) × (format ≡ written.Csv)
      × (line_of (null_place table) (text_in format line) ≡ None)
  IsWrong counted headed n line wrong.TooLong = 4_096 < length line
  IsWrong counted headed n line wrong.CarriageReturn = is_returned (text_in format line) ≡ true
  IsWrong counted headed n line (wrong.Twice k) = ⊥
  IsWrong counted headed n line (wrong.Miscount said) =
      (said_of (text_in format line) ≡ Some said) × (said + beside_rows headed ≢ n)
  IsWrong counted headed n line wrong.PastCount = counted ≡ true

  -- whether a count came, behind a line that is wrong
  abbrev pub counts : Bool → Wrong → Bool
  counts counted (wrong.Miscount said) = true
  counts counted w = counted

  -- These lines were taken, one after another: they gave these rows, and these faults, the newest first. A count may
  -- have come, and a heading.
  pub data Taken : List (List ℕ) → (counted headed : Bool) → List (Numbered K X) → List TableFault → Type 0 where
    Begins : Taken [] false false [] []
    TakesHeading : {ls : List (List ℕ)} {headed : Bool} {rs : List (Numbered K X)} {fs : List TableFault}
        (line : List ℕ) → Taken ls false headed rs fs
        → heads format (in_64_bits (length ls + 1)) (text_in format line) ≡ true
        → Taken (ls ++ line ∷ []) false true rs fs
    TakesRow : {ls : List (List ℕ)} {headed : Bool} {rs : List (Numbered K X)} {fs : List TableFault} (line : List ℕ)
        (r : K × X)
        → Taken ls false headed rs fs → Spelled (in_64_bits (length ls + 1)) line r
        → Taken (ls ++ line ∷ []) false headed
        (rs ++ record { line = in_64_bits (length ls + 1); key = r.0; row = r.1 } ∷ []) fs
    TakesCount : {ls : List (List ℕ)} {headed : Bool} {rs : List (Numbered K X)} {fs : List TableFault} (line : List ℕ)
        (said : ℕ)
        → Taken ls false headed rs fs → said_of (text_in format line) ≡ Some said
        → said + beside_rows headed ≡ in_64_bits (length ls + 1)
        → Taken (ls ++ line ∷ []) true headed rs fs
    TakesFault : {ls : List (List ℕ)} {rs : List (Numbered K X)} {fs : List TableFault} {counted headed : Bool}
        (line : List ℕ) (w : Wrong)
        → Taken ls counted headed rs fs → IsWrong counted headed (in_64_bits (length ls + 1)) line w
        → Taken (ls ++ line ∷ []) (counts counted w) headed rs
        (record { table = table; line = in_64_bits (length ls + 1); wrong = w } ∷ fs)

  -- lines were taken, and their faults told
  abbrev pub Stands : Told TableFault → List (List ℕ) → (counted headed : Bool) → ℕ → List (Numbered K X)
      → Told TableFault → Type 0
  Stands start ls counted headed count rows told =
      (fs : List TableFault) × Taken ls counted headed rows fs × (told ≡ with_faults fs start)
      × (count ≡ in_64_bits (length ls))

  -- the file's lines were taken, and their faults told
  abbrev pub IsRead : List ℕ → Told TableFault → List (Numbered K X) → Told TableFault → Type 0
  IsRead bytes start rows told =
      (lines : List (List ℕ)) × (counted : Bool) × (headed : Bool) × (fs : List TableFault) × AreLines bytes lines
      × Taken lines counted headed rows fs × (told ≡ with_faults fs start)

  -- A file was read to its end: the lines of all its bytes were taken.
  abbrev pub FileRead : Option Source → Option Source → Told TableFault → List (Numbered K X) → Told TableFault → Type 0
  FileRead old new start rows told =
      (bytes : List ℕ) × AreAll old new bytes × IsRead bytes start rows told
