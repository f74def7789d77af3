use Rattle.std.proofs.Common.{refl, sym, ◌∙◌, ap}
use Rattle.oe_store.specs.Places.{rows}
use Rattle.oe_machine.specs.Verdict.{condition_of}
use Rattle.oe_audit.proofs.PopulationFacts.{is_holds, holds_is}
use Rattle.oe_audit.proofs.populations.holds.Goals as goal

pub returns-in-Holds : goal.returns-in-Holds
returns-in-Holds c =
    let t = holds_is (condition_of c.args.number) (rows c.args.tables.now) c.condition.result c.condition.ensures in
    (λ e. t.0 (ap is_holds c.in-Holds.is), λ h. refl)

pub returns-in-Fails : goal.returns-in-Fails
returns-in-Fails c =
    let t = holds_is (condition_of c.args.number) (rows c.args.tables.now) c.condition.result c.condition.ensures in
    (λ e. t.0 (ap is_holds c.in-Fails.is ∙ e), λ h. sym (ap is_holds c.in-Fails.is) ∙ t.1 h)
