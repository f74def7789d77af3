use Rattle.std.proofs.Common.{◌≡◌, map}
use Rattle.oe_model.specs.Audits.{greatest, new_order_numbers}
use Rattle.oe_audit.specs.Walks.{stood_among}
use Rattle.oe_audit.proofs.StoodFacts.{as_new}
use Rattle.oe_audit.proofs.WalkFacts.{highest_from}
use Rattle.oe_audit.proofs.districts.last_new_order.Given as goal

-- what is left of the walk leads from the greatest so far to the greatest
abbrev pub invariant-loop-order : goal.invariant-loop-order
invariant-loop-order g l =
    highest_from l.last (map (λ e. e.0.order)
    (stood_among (g.R.RowsOf.rows_of l.then).new_orders (as_new l.order-iterator)))
    ≡ greatest (new_order_numbers l.fn.key (g.R.RowsOf.rows_of l.then).new_orders)
