use Rattle.std.proofs.Common.{◌≡◌, option_map, not}
use Rattle.std.specs.Prelude.{find}
use Rattle.oe_rows.specs.declared.keys.Key.TheVariants as key
use Rattle.oe_model.specs.Audits.{verdict_of, verdict}
use Rattle.oe_rows_of.specs.Then.{row_then}
use Rattle.oe_audit.specs.Ledgers.{customer_condition, passes_then, IsLedger}
use Rattle.oe_audit.proofs.customers.of_customers.Given as goal

-- the first row that failed is among those that are left, and the ledger's sums are its district's
abbrev pub invariant-loop-key : goal.invariant-loop-key
invariant-loop-key g l =
    (verdict_of key.Customer (option_map (λ e. e.0)
    (find (λ e. not (passes_then l.condition (g.R.RowsOf.rows_of l.then) e.0
    (row_then (g.R.RowsOf.are_now l.then) (g.R.RowsOf.rows_of l.then).customers e.0 e.1))) l.key-iterator))
    ≡ verdict (customer_condition l.condition) (g.R.RowsOf.rows_of l.then))
    × IsLedger (g.R.RowsOf.rows_of l.then) l.ledger
