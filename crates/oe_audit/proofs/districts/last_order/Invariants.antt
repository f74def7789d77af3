use Rattle.std.proofs.Common.{◌≡◌, map}
use Rattle.oe_model.specs.Audits.{greatest, order_numbers}
use Rattle.oe_audit.specs.Walks.{entries_then}
use Rattle.oe_audit.proofs.WalkFacts.{highest_from}
use Rattle.oe_audit.proofs.districts.last_order.Given as goal

-- what is left of the walk leads from the greatest so far to the greatest
abbrev pub invariant-loop-order : goal.invariant-loop-order
invariant-loop-order g l =
    highest_from l.last (map (λ e. e.0.order) (entries_then (g.R.RowsOf.are_now l.then)
    (g.R.RowsOf.rows_of l.then).orders l.order-iterator))
    ≡ greatest (order_numbers l.fn.key (g.R.RowsOf.rows_of l.then).orders)
