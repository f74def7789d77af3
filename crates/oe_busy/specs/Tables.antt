-- The table of what was in the way of a load.
use Rattle.std.specs.Prelude.{◌≡◌, ℕ, List, ◌++◌, codes, decimal, None}
use Rattle.std.specs.List.{flat_map}
use Rattle.oe_rows.specs.declared.locks.Name.{Name}
use Rattle.oe_busy.specs.declared.counts.Counts.{Counts}
use Rattle.oe_busy.specs.declared.counts.KindCounts.{KindCounts}
use Rattle.oe_busy.specs.declared.happenings.Happening.{Happening}
use Rattle.oe_busy.specs.declared.tables.Busyness.{Busyness}
use Rattle.oe_busy.specs.Happenings.{counts, count_in, busy_count, longest, AreWaits}
use Rattle.oe_busy.specs.Firsts.{name_line, AreMostBusy}

-- `Warehouse S 43 X 45 Busy 70 cycles 3`
abbrev pub kind_line : List ℕ → KindCounts → List ℕ
kind_line word c =
    word ++ codes " S " ++ decimal c.shared ++ codes " X " ++ decimal c.exclusive
    ++ codes " Busy " ++ decimal c.busy ++ codes " cycles " ++ decimal c.cycles ++ codes "\n"

abbrev pub kind_lines : Counts → List ℕ
kind_lines c =
    kind_line (codes "Warehouse") c.warehouses ++ kind_line (codes "District") c.districts
    ++ kind_line (codes "Customer") c.customers ++ kind_line (codes "Order") c.orders
    ++ kind_line (codes "Queue") c.queues ++ kind_line (codes "Stock") c.stocks ++ kind_line (codes "Names") c.names

-- `longest wait 31`
abbrev pub wait_line : ℕ → List ℕ
wait_line n = codes "longest wait " ++ decimal n ++ codes "\n"

-- the table of what happened: a line of each kind, the ten names most often in the way, and the longest wait
pub record IsTable (hs : List Happening) (text : List ℕ) : Type 0 where
  pub names : List Name
  pub are_first : AreMostBusy (busy_count hs) None 10 names
  pub text_is : text ≡ kind_lines (counts hs) ++ flat_map (name_line (busy_count hs)) names ++ wait_line (longest hs)

-- the counts are those of what happened
pub record AreCounted (b : Busyness) (hs : List Happening) : Type 0 where
  pub counts_are : b.counts ≡ counts hs
  pub names_are : count_in b.names ≡ busy_count hs
  pub waits_are : AreWaits b.waits hs
