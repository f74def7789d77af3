use Rattle.std.proofs.Common.{◌≡◌, option_map, not}
use Rattle.std.specs.Prelude.{find}
use Rattle.oe_rows.specs.declared.keys.Key.TheVariants as key
use Rattle.oe_model.specs.Audits.{Seventh, verdict_of, passes_7, verdict}
use Rattle.oe_audit.specs.Walks.{entries_then}
use Rattle.oe_audit.proofs.orders.seventh.Given as goal

-- the first row that failed is among those that are left
abbrev pub invariant-loop-key : goal.invariant-loop-key
invariant-loop-key g l =
    verdict_of key.OrderLine (option_map (λ e. e.0)
    (find (λ e. not (passes_7 (g.R.RowsOf.rows_of l.then) e.0 e.1))
    (entries_then (g.R.RowsOf.are_now l.then) (g.R.RowsOf.rows_of l.then).order_lines l.key-iterator)))
    ≡ verdict Seventh (g.R.RowsOf.rows_of l.then)
