use Rattle.std.proofs.Common.{◌≡◌, length}
use Rattle.std.specs.Prelude.{◌==◌, sum_by}
use Rattle.oe_audit.specs.Walks.{entries_then}
use Rattle.oe_audit.specs.Tests.{lines_agree}
use Rattle.oe_audit.proofs.districts.passes_fourth.Given as goal

-- the orders that are left asked for as many lines as are left exactly where the condition held
abbrev pub invariant-loop-order : goal.invariant-loop-order
invariant-loop-order g l =
    (sum_by (λ e. e.1.line_count) (entries_then (g.R.RowsOf.are_now l.then)
    (g.R.RowsOf.rows_of l.then).orders l.order-iterator)
    == length (entries_then (g.R.RowsOf.are_now l.then) (g.R.RowsOf.rows_of l.then).order_lines l.lines))
    ≡ lines_agree (g.R.RowsOf.rows_of l.then) l.fn.key
