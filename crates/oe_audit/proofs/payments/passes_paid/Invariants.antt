use Rattle.std.proofs.Common.{◌≡◌}
use Rattle.std.specs.Prelude.{◌==◌, sum_by}
use Rattle.oe_audit.specs.Payments.{paid_in, amount_in}
use Rattle.oe_audit.proofs.payments.passes_paid.Given as goal

-- what is left of the sum was paid by the rows that are left exactly where all of it was paid
abbrev pub invariant-loop-key : goal.invariant-loop-key
invariant-loop-key g l =
    (l.rest == sum_by (λ e. amount_in l.place (g.R.RowsOf.are_now l.then)
    (g.R.RowsOf.rows_of l.then).histories e) l.key-iterator)
    ≡ (l.fn.ytd == paid_in (g.R.RowsOf.rows_of l.then) l.place)
