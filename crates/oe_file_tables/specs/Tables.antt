-- What a file's rows are, and files that are read without a fault.
use Rattle.std.specs.Prelude.{◌≡◌, ℕ, Bool, List, [], map, Option}
use Rattle.std.specs.List.Sorted.{IsPermutation, IsSortedByKey, IsStrictlySortedBy}
use Rattle.std.specs.declared.cmp.Ordering.{Ordering}
use Rattle.oe_rows.specs.declared.keys.Key.{Key}
use Rattle.oe_rows.specs.declared.keys.Table.{Table}
use Rattle.oe_io.specs.Ports.{Source}
use Rattle.oe_file_tables.specs.declared.faults.TableFault.{TableFault}
use Rattle.oe_file_tables.specs.declared.formats.Format.{Format}
use Rattle.oe_file_tables.specs.declared.formats.Format.TheVariants as written
use Rattle.oe_file_tables.specs.declared.lines.Numbered.{Numbered}
use Rattle.oe_file_tables.specs.Fault.{Told, with_each_fault}
use Rattle.oe_filelines.specs.Lines.{AreLines}
use Rattle.oe_file_tables.specs.Lines.{Taken, AreAll, FileRead}
use Rattle.oe_file_tables.specs.Twice.{twice_in}

-- A file of this format was read to its end. Its rows stand in the order of their keys; its faults are those of its
-- lines, in their order, and then one for each key that stands twice.
pub record TableReadAs (format : Format) {K X : Type 0} (cmp : K → K → Ordering) (key_of : K → Key)
    (spells : ℕ → List ℕ → K × X → Type 0) (table : Table) (old new : Option Source) (start told : Told TableFault)
    (rows : List (Numbered K X)) : Type 0 where
  pub taken : List (Numbered K X)
  pub middle : Told TableFault
  pub read : FileRead format spells table old new start taken middle
  pub moved : IsPermutation taken rows
  pub sorted : IsSortedByKey (λ n. n.key) cmp rows
  pub twice : told ≡ with_each_fault (twice_in cmp table key_of rows) middle

-- the same of a file that a dump prints
abbrev pub TableRead : {K X : Type 0} → (K → K → Ordering) → (K → Key) → (ℕ → List ℕ → K × X → Type 0) → Table
    → Option Source → Option Source → Told TableFault → Told TableFault → List (Numbered K X) → Type 0
TableRead = TableReadAs written.Dump

-- Each line of the file spells one of the rows, or is the last and says how many there are, or is the first and names
-- the columns.
abbrev pub AreRowsOf : Format → {K X : Type 0} → (ℕ → List ℕ → K × X → Type 0) → Table → List ℕ
    → List (Numbered K X) → Type 0
AreRowsOf format {K} {X} spells table bytes rows =
    (lines : List (List ℕ)) × (counted : Bool) × (headed : Bool) × (taken : List (Numbered K X))
    × AreLines bytes lines × Taken format spells table lines counted headed taken [] × IsPermutation taken rows

-- The file was read to its end, and gave these rows. Their keys ascend, so that none stands twice.
abbrev pub ReadWellAs : Format → {K X : Type 0} → (K → K → Ordering) → (ℕ → List ℕ → K × X → Type 0) → Table
    → Option Source → Option Source → List (Numbered K X) → Type 0
ReadWellAs format cmp spells table old new rows =
    ((bytes : List ℕ) × AreAll old new bytes × AreRowsOf format spells table bytes rows)
    × IsStrictlySortedBy cmp (map (λ n. n.key) rows)
