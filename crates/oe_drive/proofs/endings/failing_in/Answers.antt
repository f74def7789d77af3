use Rattle.std.proofs.Common.{subst, ◌∙◌}
use Rattle.oe_model.specs.Rows.{Rows}
use Rattle.oe_report.specs.Verdicts.{IsFirstFailing}
use Rattle.oe_drive.proofs.EndFacts.{none_fails}
use Rattle.oe_drive.proofs.endings.failing_in.Goals as goal

pub returns-clause-first : goal.returns-clause-first
returns-clause-first g c =
    subst (λ (r : Rows). IsFirstFailing r c.first_failing.result) c.tables.ensures c.first_failing.ensures

pub returns-clause-none : goal.returns-clause-none
returns-clause-none g c =
    let quiet = c.open_count-open.ensures.quiet.0 (c.open_count-open.ensures.count ∙ c.requires) in
    none_fails _ c.first_failing.result (c.conditions_hold.ensures.when_quiet _ c.is_reached.ensures quiet)
    (subst (λ (r : Rows). IsFirstFailing r c.first_failing.result) c.tables.ensures c.first_failing.ensures)
