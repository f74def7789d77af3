-- What a file of replies comes to that is decided from the population of a folder.
use Rattle.std.specs.Prelude.{◌≡◌, ℕ, List, Option, Result, Ok, Err}
use Rattle.oe_io.specs.Ports.{Sink}
use Rattle.oe_store.specs.Places.{Places, rows}
use Rattle.oe_file_tables.specs.declared.formats.Format.{Format}
use Rattle.oe_file_loading.specs.Loading.{Nine}
use Rattle.oe_origin.specs.Populations.{IsOpenedOn, IsNoPopulation}
use Rattle.oe_file_serial.specs.Verdicts.{SerialRan}
use Rattle.oe_file_serial.specs.declared.origins.Origin.TheVariants as origin
use Rattle.oe_file_serial.specs.declared.verdicts.Verdict.{Verdict}
use Rattle.oe_file_serial.specs.declared.reports.SerialFault.{SerialFault}
use Rattle.oe_comparison.specs.Runs.{ComparisonRan}
use Rattle.oe_comparison.specs.declared.runs.Verdict as compared
use Rattle.oe_comparison.specs.declared.runs.ComparisonFault.{ComparisonFault}
use Rattle.oe_from.specs.declared.serials.FromFault.{FromFault}
use Rattle.oe_from.specs.declared.serials.FromFault.TheVariants as fault

-- The files of the folder, of this format, are a population of exactly their rows, and the file is decided from these
-- tables; or they are none, and nothing is written.
abbrev pub SerialFromRan : Format → Nine → Nine → List ℕ → Option Sink → Option Sink
    → Result Verdict (FromFault SerialFault) → Type 0
SerialFromRan format from from' input old new (Ok v) =
    (t : Places) × IsOpenedOn format from from' (rows t) × SerialRan (origin.Tables t) input old new (Ok v)
SerialFromRan format from from' input old new (Err (fault.NoPopulation e)) =
    IsNoPopulation format from from' e × (new ≡ old)
SerialFromRan format from from' input old new (Err (fault.Fault f)) =
    (t : Places) × IsOpenedOn format from from' (rows t) × SerialRan (origin.Tables t) input old new (Err f)

-- The same of a file whose tables at the end are compared with nine other files.
abbrev pub ComparisonFromRan : Format → Nine → Nine → List ℕ → Nine → Nine → Option Sink → Option Sink
    → Result compared.Verdict (FromFault ComparisonFault) → Type 0
ComparisonFromRan format from from' input before after old new (Ok v) =
    (t : Places) × IsOpenedOn format from from' (rows t)
    × ComparisonRan format (origin.Tables t) input before after old new (Ok v)
ComparisonFromRan format from from' input before after old new (Err (fault.NoPopulation e)) =
    IsNoPopulation format from from' e × (new ≡ old)
ComparisonFromRan format from from' input before after old new (Err (fault.Fault f)) =
    (t : Places) × IsOpenedOn format from from' (rows t)
    × ComparisonRan format (origin.Tables t) input before after old new (Err f)
