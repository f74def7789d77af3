use Rattle.std.proofs.Common.{◌+◌, length}
use Rattle.oe_comparison.specs.Differences.{differences, with_columns}
use Rattle.oe_comparison.specs.Walks.{rows_from, pair_of}
use Rattle.oe_comparison.proofs.DifferenceFacts.{Ahead}
use Rattle.oe_comparison.proofs.sides.compare_sides.Given as goal

-- the rows that differ so far were counted, and the first was told
abbrev pub invariant-loop-passed : goal.invariant-loop-passed
invariant-loop-passed g l =
    Ahead g.C.Comparing.order_of g.C.Comparing.columns_of g.C.Comparing.line_at
    (differences g.C.Comparing.order_of (with_columns g.C.Comparing.columns_of (g.A.RowWalk.left l.fn.theirs))
    (with_columns g.C.Comparing.columns_of (g.B.RowWalk.left l.fn.ours))) l.initial.report
    (rows_from (pair_of l.their) (g.A.RowWalk.left l.theirs)) (rows_from (pair_of l.our) (g.B.RowWalk.left l.ours))
    l.others l.report

abbrev pub decreases-loop-passed : goal.decreases-loop-passed
decreases-loop-passed g l =
    length (rows_from (pair_of l.their) (g.A.RowWalk.left l.theirs))
    + length (rows_from (pair_of l.our) (g.B.RowWalk.left l.ours))
