use Rattle.std.proofs.Common.{◌≡◌, ◌+◌, ◌≤◌, length}
use Rattle.oe_file_rows.specs.Line.{fields_of}
use Rattle.oe_comparison.specs.Columns.{first_other}
use Rattle.oe_comparison.proofs.columns.first_other.Given as goal

-- the columns before are the same
abbrev pub invariant-loop-their : goal.invariant-loop-their
invariant-loop-their l = record {
  same : first_other l.place (fields_of l.left) (fields_of l.right) ≡ first_other 0 (fields_of l.fn.theirs)
      (fields_of l.fn.ours);
  few : l.place + length l.left ≤ length l.fn.theirs;
}

abbrev pub decreases-loop-their : goal.decreases-loop-their
decreases-loop-their l = length l.left
