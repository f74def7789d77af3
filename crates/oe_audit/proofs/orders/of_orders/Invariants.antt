use Rattle.std.proofs.Common.{◌≡◌, option_map, not}
use Rattle.std.specs.Prelude.{find}
use Rattle.oe_rows.specs.declared.keys.Key.TheVariants as key
use Rattle.oe_model.specs.Audits.{verdict_of, verdict}
use Rattle.oe_audit.specs.Walks.{entries_then, passes_order, order_condition}
use Rattle.oe_audit.proofs.orders.of_orders.Given as goal

-- the first row that failed is among those that are left
abbrev pub invariant-loop-key : goal.invariant-loop-key
invariant-loop-key g l =
    verdict_of key.Order (option_map (λ e. e.0)
    (find (λ e. not (passes_order l.condition (g.R.RowsOf.rows_of l.then) e.0 e.1))
    (entries_then (g.R.RowsOf.are_now l.then) (g.R.RowsOf.rows_of l.then).orders l.key-iterator)))
    ≡ verdict (order_condition l.condition) (g.R.RowsOf.rows_of l.then)
