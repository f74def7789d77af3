-- Rows that are gathered from a file's lines, and rows that are put in the order of their keys.
use Rattle.std.specs.Prelude.{◌≡◌, ℕ, ◌+◌, ◌-◌, ◌<◌, Bool, true, List, length, slice_index_or}
use Rattle.std.specs.List.Sorted.{IsPermutation, IsSortedByKey}
use Rattle.std.specs.declared.cmp.Ordering.{Ordering}
use Rattle.std.specs.declared.cmp.Ordering.TheVariants.{Less}
use Rattle.oe_rows.specs.declared.keys.Key.{Key}
use Rattle.oe_rows.specs.declared.keys.Table.{Table}
use Rattle.oe_file_tables.specs.declared.faults.TableFault.{TableFault}
use Rattle.oe_file_tables.specs.declared.lines.Numbered.{Numbered}
use Rattle.oe_file_tables.specs.Fault.{Told, with_each_fault}
use Rattle.oe_file_tables.specs.Twice.{twice_in}

module _ {K X : Type 0} (cmp : K → K → Ordering) where
  -- each key is less than the next
  abbrev pub Ascend : List (Numbered K X) → Type 0
  Ascend rows =
      (k : ℕ) (d : Numbered K X) → k + 1 < length rows
      → cmp (slice_index_or rows k d).key (slice_index_or rows (k + 1) d).key ≡ Less

  -- the last key is less than this one
  abbrev pub EndBelow : List (Numbered K X) → K → Type 0
  EndBelow rows key =
      (d : Numbered K X) → 0 < length rows → cmp (slice_index_or rows (length rows - 1) d).key key ≡ Less

  -- the rows are counted, and ascend where that is said
  pub record AreGathered (count : ℕ) (is_ascending : Bool) (rows : List (Numbered K X)) : Type 0 where
    pub counted : count ≡ length rows
    pub ascend : is_ascending ≡ true → Ascend rows

  -- The rows stand in the order of their keys; each whose key the row before it has makes a fault.
  pub record AreOrdered (table : Table) (key_of : K → Key) (rows ordered : List (Numbered K X))
      (old new : Told TableFault) : Type 0 where
    pub moved : IsPermutation rows ordered
    pub sorted : IsSortedByKey (λ n. n.key) cmp ordered
    pub twice : new ≡ with_each_fault (twice_in cmp table key_of ordered) old
