-- Keys that stand twice among the rows of a file.
use Rattle.std.specs.Prelude.{List, [], ◌∷◌, ◌++◌, if◌then◌else◌}
use Rattle.std.specs.Ordering.{eq_by_cmp}
use Rattle.std.specs.declared.cmp.Ordering.{Ordering}
use Rattle.oe_rows.specs.declared.keys.Key.{Key}
use Rattle.oe_rows.specs.declared.keys.Table.{Table}
use Rattle.oe_file_tables.specs.declared.faults.TableFault.{TableFault}
use Rattle.oe_file_tables.specs.declared.faults.Wrong.TheVariants as wrong
use Rattle.oe_file_tables.specs.declared.lines.Numbered.{Numbered}

module _ {K X : Type 0} (cmp : K → K → Ordering) (table : Table) (key_of : K → Key) where
  -- a fault of the row n, where the row p before it has the same key
  abbrev pub twice_at : Numbered K X → Numbered K X → List TableFault
  twice_at p n =
      if eq_by_cmp cmp p.key n.key then record { table = table; line = n.line; wrong = wrong.Twice (key_of n.key) } ∷ []
      else []

  -- the same of each of these rows, which stand behind the row p
  abbrev pub twice_behind : Numbered K X → List (Numbered K X) → List TableFault
  twice_behind p [] = []
  twice_behind p (n ∷ ns) = twice_at p n ++ twice_behind n ns

  -- a fault of each row whose key the row before it has
  abbrev pub twice_in : List (Numbered K X) → List TableFault
  twice_in [] = []
  twice_in (n ∷ ns) = twice_behind n ns
