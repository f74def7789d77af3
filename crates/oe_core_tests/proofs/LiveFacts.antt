-- A core that was just opened on a population runs no program.
use Rattle.std.proofs.Common.{◌≡◌, ℕ, Some, sym, subst}
use Rattle.oe_theory.specs.Theorems.{world_at_opening}
use Rattle.oe_theory.proofs.Theorems.{opening_is_reached}
use Rattle.oe_model.specs.Rows.{Rows}
use Rattle.oe_rows.specs.declared.layouts.Layout.TheVariants.{WholeRows}
use Rattle.oe_model.specs.Conditions.{IsPopulation}
use Rattle.oe_model.specs.System.{system}
use Rattle.oe_model.proofs.SystemLaws.{laws, population_is_good}
use Rattle.oe_core.specs.Core.{CoreState, world_of}
use Rattle.oe_script.specs.Session.{state_of}
use Rattle.oe_admission.specs.Programs.{IsLive}

pub opened_is_live : (c : CoreState) (r : Rows) (n : ℕ) → world_of c ≡ world_at_opening system r n WholeRows
    → IsPopulation r
    → IsLive (state_of world_of (Some c))
opened_is_live c r n e p = subst (λ w. IsLive (Some w)) (sym e)
    (opening_is_reached system laws r n WholeRows (population_is_good r p), λ t. tt)
