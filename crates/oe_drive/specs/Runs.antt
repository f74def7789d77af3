-- What a drive leaves, and what is written of it.
use Rattle.std.specs.Prelude.{◌≡◌, ℕ, true, List, [], codes, Option, None, Result, Ok, Err}
use Rattle.oe_theory.specs.World.{World, newest, latest, tables}
use Rattle.oe_theory.specs.Next as theory
use Rattle.oe_theory.specs.Next.{Next}
use Rattle.oe_theory.specs.Theorems.{world_at_opening}
use Rattle.oe_numbers.specs.declared.drives.DriveNumbers.{DriveNumbers}
use Rattle.oe_rows.specs.declared.scales.Scale.{Scale}
use Rattle.oe_rows.specs.declared.layouts.Layout.TheVariants as layout
use Rattle.oe_model.specs.Rows.{Rows}
use Rattle.oe_model.specs.Population.{IsPopulated}
use Rattle.oe_model.specs.System.{system}
use Rattle.oe_history.specs.declared.views.Entry.{Entry}
use Rattle.oe_history.specs.Views.{calls_by}
use Rattle.oe_hall.specs.Histories.{IsHistory}
use Rattle.oe_hall.specs.Turns.{open_count}
use Rattle.oe_io.specs.Ports.{Sink, Sent, Cut}
use Rattle.oe_report.specs.Verdicts.{IsFirstFailing}
use Rattle.oe_drive.specs.Plans.{plans_of, ArePlansCarriedOut}
use Rattle.oe_drive.specs.declared.endings.Ending.{Ending}
use Rattle.oe_drive.specs.declared.runs.Ran.{Ran}
use Rattle.oe_drive.specs.declared.runs.DriveFault.{DriveFault}
use Rattle.oe_drive.specs.declared.runs.DriveFault.TheVariants as fault

-- a step that asks for moment 0 leads from the world to one whose newest version these rows are
abbrev pub IsRewoundToBase : World system → Rows → Type 0
IsRewoundToBase w r = (w' : World system) × (a : theory.Answer system) × Next system w (theory.Rewind 0) a w'
    × (r ≡ latest system w')

-- None of conditions 1 to 4 fails in the world, and a rewind gives a population of the scale back.
abbrev pub IsEndOfDrive : Scale → World system → Ending → Type 0
IsEndOfDrive s w e =
    (left : Rows) × (fresh : Rows) × IsRewoundToBase w left × IsPopulated s fresh × (left ≡ fresh)
    × (e.is_restored ≡ true) × IsFirstFailing (tables system w) None × (e.failing ≡ None)

-- one history, in which nobody purges and each terminal carries out its plan, leads to the world from a population of
-- the scale, with so many extents
abbrev pub IsDriven : DriveNumbers → World system → Type 0
IsDriven d w =
    (base : Rows) × (log : List Entry) × IsPopulated d.scale base
    × IsHistory (world_at_opening system base d.extents layout.ChangedColumns) log w × (calls_by 0 log ≡ [])
    × ArePlansCarriedOut log (plans_of d)

-- so it is; nothing is open, `committed` commits have led there, and undo records keep changed columns
pub record IsLeft (d : DriveNumbers) (w : World system) (committed : ℕ) : Type 0 where
  pub driven : IsDriven d w
  pub quiet : open_count w ≡ 0
  pub newest : newest system w ≡ committed
  pub layout : w.layout ≡ layout.ChangedColumns

-- the two lines of a drive
abbrev pub ending_lines : List ℕ
ending_lines = codes "conditions 1 2 3 4 hold\npopulation restored\n"

-- All terminals ended, and the two lines were written, with status 0; nothing was, for want of memory; or a beginning
-- of them was.
abbrev pub DriveRan : DriveNumbers → Option Sink → Option Sink → Result Ran DriveFault → Type 0
DriveRan d old new (Ok ran) =
    (w : World system) × IsLeft d w ran.counted.committed × Sent old [] new [] ending_lines × (ran.status ≡ 0)
DriveRan d old new (Err fault.NoMemory) = new ≡ old
DriveRan d old new (Err fault.Write) = (w : World system) × (k : ℕ) × IsLeft d w k × Cut old [] new ending_lines
