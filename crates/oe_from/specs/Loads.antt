-- What a load comes to that begins on the population of a folder.
use Rattle.std.specs.Prelude.{◌≡◌, Option, Result, Ok, Err}
use Rattle.oe_rows.specs.declared.scales.Scale.{Scale}
use Rattle.oe_io.specs.Ports.{Sink}
use Rattle.oe_store.specs.Places.{Places, rows}
use Rattle.oe_file_tables.specs.declared.formats.Format.{Format}
use Rattle.oe_file_loading.specs.Loading.{Nine}
use Rattle.oe_origin.specs.Populations.{IsOpenedOn, IsNoPopulation}
use Rattle.oe_numbers.specs.declared.forms.Form.{Form}
use Rattle.oe_terms.specs.declared.plans.Plan.{Plan}
use Rattle.oe_load.specs.Ends.{LoadRan}
use Rattle.oe_load.specs.declared.origins.Origin.TheVariants as origin
use Rattle.oe_from.specs.Scales.{HasScale, LacksFor}
use Rattle.oe_from.specs.declared.loads.Following.{Following}
use Rattle.oe_from.specs.declared.loads.FollowingFault.{FollowingFault}
use Rattle.oe_from.specs.declared.loads.FollowingFault.TheVariants as following
use Rattle.oe_from.specs.declared.serials.FromFault.{FromFault}
use Rattle.oe_from.specs.declared.serials.FromFault.TheVariants as fault

-- the plan of that scale
abbrev pub plan_of : Following → Scale → Plan
plan_of f s = record {
  numbers = record {
    scale = s;
    extents = f.numbers.extents;
    terminals = f.numbers.terminals;
    requests = f.numbers.requests;
    seed = f.numbers.seed;
  };
  first = f.first;
  kinds = f.kinds;
  items = f.items;
}

-- The files of the folder, of this format, are a population of exactly the rows of these tables, and the load ran on
-- them, by a plan of their scale; or they lack of a load what is named; or they are no population. Then nothing is
-- written.
abbrev pub LoadFromRan : Format → Nine → Nine → Following → Form → Option Sink → Option Sink
    → Result (Unit {0}) (FromFault FollowingFault) → Type 0
LoadFromRan format from from' f form old new (Ok x) =
    (t : Places) × (s : Scale) × IsOpenedOn format from from' (rows t) × HasScale (rows t) s
    × LoadRan (plan_of f s) (origin.Tables t) form old new (Ok x)
LoadFromRan format from from' f form old new (Err (fault.NoPopulation e)) =
    IsNoPopulation format from from' e × (new ≡ old)
LoadFromRan format from from' f form old new (Err (fault.Fault (following.NoScale g))) =
    (t : Places) × IsOpenedOn format from from' (rows t) × LacksFor (rows t) g × (new ≡ old)
LoadFromRan format from from' f form old new (Err (fault.Fault (following.Load e))) =
    (t : Places) × (s : Scale) × IsOpenedOn format from from' (rows t) × HasScale (rows t) s
    × LoadRan (plan_of f s) (origin.Tables t) form old new (Err e)
