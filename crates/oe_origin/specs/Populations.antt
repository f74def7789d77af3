-- What nine files come to: a population, or none.
use Rattle.oe_file_loading.specs.Loaded.{IsNotLoaded}
use Rattle.oe_file_loading.specs.Loading.{Nine}
use Rattle.oe_file_loading.specs.Whole.{AreWhole, LacksRow}
use Rattle.oe_model.specs.Conditions.{IsPopulation}
use Rattle.oe_model.specs.Rows.{Rows}
use Rattle.oe_file_tables.specs.declared.formats.Format.{Format}
use Rattle.oe_origin.specs.declared.lacks.Lack.{Lack}
use Rattle.oe_origin.specs.declared.lacks.Lack.TheVariants as lack
use Rattle.oe_origin.specs.declared.populations.NoPopulation.{NoPopulation}
use Rattle.oe_origin.specs.declared.populations.NoPopulation.TheVariants as error
use Rattle.oe_origin.specs.Lacks.{Lacks}

-- the rows are exactly those of the files, and a population
abbrev pub IsOpenedOn : Format → Nine → Nine → Rows → Type 0
IsOpenedOn format old new r = AreWhole format old new r × IsPopulation r

-- the files were read, and what is named does lack: a row that one of theirs refers to, or of tables that have exactly
-- their rows
abbrev pub LacksOf : Format → Nine → Nine → Lack → Type 0
LacksOf format old new (lack.Row a) = LacksRow format old new a
LacksOf format old new (lack.Condition c k) = (r : Rows) × AreWhole format old new r × Lacks r (lack.Condition c k)
LacksOf format old new (lack.Stock k) = (r : Rows) × AreWhole format old new r × Lacks r (lack.Stock k)

-- no population: something lacks, or the files are not loaded
abbrev pub IsNoPopulation : Format → Nine → Nine → NoPopulation → Type 0
IsNoPopulation format old new (error.Lacks l) = LacksOf format old new l
IsNoPopulation format old new (error.Unloaded e) = IsNotLoaded format old new e
