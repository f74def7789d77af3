use Rattle.std.proofs.Common.{◌≡◌}
use Rattle.std.specs.Prelude.{◌==◌, sum_by}
use Rattle.oe_audit.specs.Walks.{entries_then}
use Rattle.oe_audit.specs.Tests.{is_summed}
use Rattle.oe_audit.proofs.warehouses.passes_first.Given as goal

-- what is left of W_YTD was the sum of what is left of the walk exactly where the condition held
abbrev pub invariant-loop-district : goal.invariant-loop-district
invariant-loop-district g l =
    (l.rest == sum_by (λ e. e.1.ytd) (entries_then (g.R.RowsOf.are_now l.then)
    (g.R.RowsOf.rows_of l.then).districts l.district-iterator))
    ≡ is_summed (g.R.RowsOf.rows_of l.then) l.fn.key l.fn.ytd
