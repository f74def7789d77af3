use Rattle.std.proofs.Common.{◌≡◌, ◌+◌, ◌≤◌, length}
use Rattle.oe_audit.specs.Walks.{lines_stood}
use Rattle.oe_audit.proofs.districts.takes.Given as goal

abbrev pub invariant-loop-wanted : goal.invariant-loop-wanted
invariant-loop-wanted g l = record {
  taken : lines_stood (g.R.RowsOf.are_now l.then) (g.R.RowsOf.rows_of l.then) l.lines + l.count
      ≡ lines_stood (g.R.RowsOf.are_now l.then) (g.R.RowsOf.rows_of l.then) l.fn.lines + l.wanted;
  some : l.wanted ≤ l.count;
}

abbrev pub decreases-loop-wanted : goal.decreases-loop-wanted
decreases-loop-wanted g l = length l.lines
