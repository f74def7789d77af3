-- Conditions 1 to 4, of every world that steps lead to and along every run.
use Rattle.std.proofs.Common.{ℕ, subst, sym}
use Rattle.oe_theory.specs.World.{World, newest}
use Rattle.oe_theory.specs.StepTheorems.{IsEnding, Runs_pass}
use Rattle.oe_theory.specs.Theorems.{IsReached}
use Rattle.oe_theory.proofs.Theorems.{versions_are_good, tables_when_quiet}
use Rattle.oe_theory.proofs.StepTheorems.{endings_are_whole, runs_pass}
use Rattle.oe_model.specs.Rows.{Rows}
use Rattle.oe_model.specs.Conditions.{Good}
use Rattle.oe_model.specs.Headline.{Conditions, Is_consistent}
use Rattle.oe_model.specs.System.{system}
use Rattle.oe_model.proofs.SystemLaws.{laws}

of_good : (f : ℕ → ℕ) (r : Rows) → Good f r → Conditions r
of_good f r g = record {
  condition_1 = g.condition_1;
  condition_2 = g.condition_2;
  condition_3 = g.condition_3;
  condition_4 = g.condition_4;
}

pub consistent : (w : World system) → IsReached system w → Is_consistent w
consistent w reached = record {
  of_versions = λ m. of_good _ _ (versions_are_good system laws w reached m);
  when_quiet = λ quiet. subst Conditions (sym (tables_when_quiet system laws w quiet))
      (of_good _ _ (versions_are_good system laws w reached (newest system w)));
}

pub along_runs : Runs_pass system Is_consistent (IsEnding system)
along_runs = runs_pass system laws Is_consistent (IsEnding system) consistent (endings_are_whole system laws)
