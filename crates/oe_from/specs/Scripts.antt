-- What a script comes to that begins opened, on the population of a folder.
use Rattle.std.specs.Prelude.{◌≡◌, ℕ, Option, Some, Result, Ok, Err}
use Rattle.oe_theory.specs.Theorems.{world_at_opening}
use Rattle.oe_rows.specs.declared.layouts.Layout.{Layout}
use Rattle.oe_model.specs.Rows.{Rows}
use Rattle.oe_model.specs.System.{system}
use Rattle.oe_io.specs.Ports.{Source, Sink}
use Rattle.oe_file_tables.specs.declared.formats.Format.{Format}
use Rattle.oe_file_loading.specs.Loading.{Nine}
use Rattle.oe_origin.specs.Populations.{IsOpenedOn, IsNoPopulation}
use Rattle.oe_script.specs.Session.{ScriptRan}
use Rattle.oe_from.specs.declared.serials.FromFault.{FromFault}
use Rattle.oe_from.specs.declared.serials.FromFault.TheVariants as fault
use Rattle.oe_from.specs.declared.scripts.OpenedFault.{OpenedFault}
use Rattle.oe_from.specs.declared.scripts.OpenedFault.TheVariants as ended

-- The script ran from the world that these rows open, with such an undo ring; or there was no memory, and nothing was
-- read or written.
abbrev pub OpenedRan : Rows → ℕ → Layout → Option Source → Option Source → Option Sink → Option Sink
    → Result (Unit {0}) OpenedFault → Type 0
OpenedRan r extents layout a b c d (Ok x) = ScriptRan (Some (world_at_opening system r extents layout)) a b c d (Ok x)
OpenedRan r extents layout a b c d (Err ended.NoMemory) = (b ≡ a) × (d ≡ c)
OpenedRan r extents layout a b c d (Err (ended.Script f)) =
    ScriptRan (Some (world_at_opening system r extents layout)) a b c d (Err f)

-- The files of the folder, of this format, are a population of exactly their rows, and the script ran from it; or they
-- are none, and nothing of the script was read, and nothing written.
abbrev pub ScriptFromRan : Format → Nine → Nine → ℕ → Layout → Option Source → Option Source → Option Sink
    → Option Sink → Result (Unit {0}) (FromFault OpenedFault) → Type 0
ScriptFromRan format from from' extents layout a b c d (Ok x) =
    (r : Rows) × IsOpenedOn format from from' r × OpenedRan r extents layout a b c d (Ok x)
ScriptFromRan format from from' extents layout a b c d (Err (fault.NoPopulation e)) =
    IsNoPopulation format from from' e × (b ≡ a) × (d ≡ c)
ScriptFromRan format from from' extents layout a b c d (Err (fault.Fault f)) =
    (r : Rows) × IsOpenedOn format from from' r × OpenedRan r extents layout a b c d (Err f)
