use Rattle.std.proofs.Common.{ℕ, List, ◌≤◌, length, arith, subst, sym}
use Rattle.oe_file_audit.proofs.FaultFacts.{name_first_at, name_short}
use Rattle.oe_file_audit.proofs.faults.name_at.Goals as goal

pub returns-then-column-columns-clause-value : goal.returns-then-column-columns-clause-value
returns-then-column-columns-clause-value c =
    name_first_at c.fact_columns-columns.result.now c.args.table c.args.column _ c.fact_columns-columns.ensures.value
    (omega (arith, c.if-column-columns.true))

pub returns-then-column-columns-clause-most : goal.returns-then-column-columns-clause-most
returns-then-column-columns-clause-most c =
    subst (λ (t : List ℕ). length t ≤ 20)
    (sym (name_first_at c.fact_columns-columns.result.now c.args.table c.args.column _
    c.fact_columns-columns.ensures.value (omega (arith, c.if-column-columns.true))))
    (name_short c.args.table c.args.column)
