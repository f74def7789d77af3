use Rattle.std.proofs.Common.{sym, ap, ◌∙◌}
use Rattle.std.proofs.lemmas.Bool.{ltb-true}
use Rattle.oe_file_audit.specs.Faults.{kind_or}
use Rattle.oe_file_audit.proofs.FaultFacts.{kind_found}
use Rattle.oe_file_audit.proofs.faults.kind_at.Goals as goal

pub returns-in-Some : goal.returns-in-Some
returns-in-Some c =
    let looked = c.in-Some.ensures.lookup in
    kind_found c.fact_columns.result.now c.args.column c.in-Some.found.now (ltb-true _ _ (sym looked.0)) looked.1
    ∙ ap (λ cs. kind_or cs c.args.column) c.fact_columns.ensures.value
