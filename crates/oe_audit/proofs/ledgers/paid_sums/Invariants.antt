use Rattle.oe_model.specs.Keys.{customer_in}
use Rattle.oe_model.specs.FurtherConditions.{paid_by}
use Rattle.oe_audit.specs.Ledgers.{sum_for, payment_adds}
use Rattle.oe_audit.proofs.LeadFacts.{Leads}
use Rattle.oe_audit.proofs.LedgerFacts.{IsNumber, AreFew}
use Rattle.oe_audit.proofs.ledgers.paid_sums.Given as goal

-- what the payments that are left add leads to what was paid, and no sum is too great
abbrev pub invariant-loop-key : goal.invariant-loop-key
invariant-loop-key g l =
    Leads IsNumber sum_for (λ e c. payment_adds (g.R.RowsOf.are_now l.then)
    (g.R.RowsOf.rows_of l.then).histories l.district e c)
    (λ c. paid_by (g.R.RowsOf.rows_of l.then) (customer_in l.district c)) l.sums l.key-iterator
    × AreFew l.sums l.key-iterator
