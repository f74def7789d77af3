-- A file that is read, between two bytes.
use Rattle.std.specs.Prelude.{◌≡◌, ◌≢◌, ℕ, ◌+◌, ◌⊎◌, Bool, List, [], ◌∷◌, ◌++◌, None, Result, Ok, Err}
use Rattle.oe_rows.specs.declared.keys.Table.{Table}
use Rattle.oe_file_rows.specs.declared.forms.LineFault.{LineFault}
use Rattle.oe_file_tables.specs.declared.faults.TableFault.{TableFault}
use Rattle.oe_file_tables.specs.declared.faults.Wrong.TheVariants as wrong
use Rattle.oe_file_tables.specs.declared.lines.Numbered.{Numbered}
use Rattle.oe_file_tables.specs.declared.lines.TableLines as taker
use Rattle.oe_file_tables.specs.Fault.{Told, with_fault}
use Rattle.oe_file_tables.specs.declared.formats.Format.{Format}
use Rattle.oe_file_tables.specs.declared.formats.Format.TheVariants as written
use Rattle.oe_file_tables.specs.Format.{null_place, spelled_as}
use Rattle.oe_file_tables.specs.Record.{line_of}
use Rattle.oe_file_tables.specs.Lines.{beside_rows, Stands}

-- a count came that is right, or another
abbrev pub CountsOne : Table → (headed : Bool) → ℕ → ℕ → Told TableFault → Told TableFault → Type 0
CountsOne table headed said n old new =
    ((said + beside_rows headed ≡ n) × (new ≡ old))
    ⊎ ((said + beside_rows headed ≢ n)
    × (new ≡ with_fault (record { table = table; line = n; wrong = wrong.Miscount said }) old))

-- what was read of the n-th line is a row, or a fault
abbrev pub TakesRead : {K X : Type 0} → Table → ℕ → Result (K × X) LineFault → List (Numbered K X) → Told TableFault
    → List (Numbered K X) → Told TableFault → Type 0
TakesRead table n (Ok r) rows told rows' told' =
    (rows' ≡ rows ++ record { line = n; key = r.0; row = r.1 } ∷ []) × (told' ≡ told)
TakesRead table n (Err f) rows told rows' told' =
    (rows' ≡ rows) × (told' ≡ with_fault (record { table = table; line = n; wrong = wrong.NoRow f }) told)

module _ {K X : Type 0} (format : Format) (spells : ℕ → List ℕ → K × X → Type 0) (table : Table) where
  -- the n-th line, of this text, gave a row, or is none
  abbrev pub TakesOne : ℕ → (text : List ℕ) → List (Numbered K X) → Told TableFault → List (Numbered K X)
      → Told TableFault → Type 0
  TakesOne n text rows told rows' told' =
      ((r : K × X) × spelled_as format table spells n text r
      × (rows' ≡ rows ++ record { line = n; key = r.0; row = r.1 } ∷ []) × (told' ≡ told))
      ⊎ (((f : LineFault) × ((r : K × X) → spelled_as format table spells n text r → ⊥) × (rows' ≡ rows)
      × (told' ≡ with_fault (record { table = table; line = n; wrong = wrong.NoRow f }) told))
      ⊎ ((format ≡ written.Csv) × (line_of (null_place table) text ≡ None) × (rows' ≡ rows)
      × (told' ≡ with_fault (record { table = table; line = n; wrong = wrong.NoRecord }) told)))

-- these lines of a table's file were taken, and their faults told
abbrev pub TableTaken : {K X : Type 0} → (ℕ → List ℕ → K × X → Type 0) → Table → taker.TableLines K X
    → List (List ℕ) → taker.TableLines K X → Type 0
TableTaken spells table start ls now =
    (now.lot.ghost_name ≡ start.lot.ghost_name) × (now.faults.ghost_name ≡ start.faults.ghost_name)
    × (now.format ≡ start.format)
    × Stands start.format spells table start.faults.now ls now.lot.now.is_counted now.lot.now.is_headed
    now.lot.now.count now.lot.now.rows now.faults.now
