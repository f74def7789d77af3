-- What transactions keep besides holds of each version of a script.
use Rattle.std.proofs.Common.{ℕ, List, sym, subst}
use Rattle.oe_theory.specs.World.{World, newest, at}
use Rattle.oe_theory.proofs.Theorems.{tables_when_quiet}
use Rattle.oe_model.specs.Rows.{Rows}
use Rattle.oe_model.specs.System.{system}
use Rattle.oe_model.proofs.SystemLaws.{laws}
use Rattle.oe_movements.specs.Movements.{Movements}
use Rattle.oe_movements.proofs.PopulationMoves.{population_has_movements}
use Rattle.oe_script_laws.specs.Deeds.{Entry}
use Rattle.oe_script_laws.specs.Laws.{IsOneRun, Movements_hold}

of_versions : (es : List Entry) (w : World system) (r : IsOneRun es w) (m : ℕ)
    → Movements r.scale.customers (at system w m)
of_versions es w r m =
    (r.ran.last.movements r.scale.customers (population_has_movements r.scale r.rows r.says.form.0 r.populated)
    m).movements

pub movements_hold : Movements_hold
movements_hold = record {
  of_versions = of_versions;
  when_quiet = λ es w r quiet. subst (λ (t : Rows). Movements r.scale.customers t)
      (sym (tables_when_quiet system laws w quiet)) (of_versions es w r (newest system w));
}
