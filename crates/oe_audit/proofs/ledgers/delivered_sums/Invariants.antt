use Rattle.oe_model.specs.Keys.{customer_in}
use Rattle.oe_model.specs.FurtherConditions.{delivered_for}
use Rattle.oe_rows_of.specs.Then.{row_then}
use Rattle.oe_audit.specs.Ledgers.{sum_for, line_then_adds}
use Rattle.oe_audit.proofs.LeadFacts.{Leads}
use Rattle.oe_audit.proofs.LedgerFacts.{IsNumber}
use Rattle.oe_audit.proofs.ledgers.delivered_sums.Given as goal

-- what the lines that are left add leads to what was delivered
abbrev pub invariant-loop-key : goal.invariant-loop-key
invariant-loop-key g l =
    Leads IsNumber sum_for (λ e c. line_then_adds (g.R.RowsOf.rows_of l.then) e.0
    (row_then (g.R.RowsOf.are_now l.then) (g.R.RowsOf.rows_of l.then).order_lines e.0 e.1) c)
    (λ c. delivered_for (g.R.RowsOf.rows_of l.then) (customer_in l.district c)) l.sums l.key-iterator
