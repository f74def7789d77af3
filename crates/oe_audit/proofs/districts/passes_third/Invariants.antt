use Rattle.std.proofs.Common.{◌≡◌, map}
use Rattle.oe_audit.specs.Walks.{stood_among}
use Rattle.oe_audit.specs.Tests.{are_counted}
use Rattle.oe_audit.proofs.NumberFacts.{has_no_gap}
use Rattle.oe_audit.proofs.StoodFacts.{as_new}
use Rattle.oe_audit.proofs.districts.passes_third.Given as goal

-- what is left of the walk had no gap exactly where the whole walk had none
abbrev pub invariant-loop-order : goal.invariant-loop-order
invariant-loop-order g l =
    has_no_gap l.before (map (λ e. e.0.order)
    (stood_among (g.R.RowsOf.rows_of l.then).new_orders (as_new l.order-iterator)))
    ≡ are_counted (g.R.RowsOf.rows_of l.then) l.fn.key
