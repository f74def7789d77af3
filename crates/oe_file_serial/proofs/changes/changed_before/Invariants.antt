use Rattle.std.proofs.Common.{◌≡◌, ℕ, ◌+◌, ◌≤◌, List, ◌++◌, length}
use Rattle.std.specs.Prelude.{All}
use Rattle.oe_file_serial.specs.Files.{IsTold, lines_of}
use Rattle.oe_file_serial.specs.Changes.{IsLast}
use Rattle.oe_file_serial.proofs.changes.changed_before.Given as goal

-- the last of the lines so far that changed the row
abbrev pub invariant-loop-behind : goal.invariant-loop-behind
invariant-loop-behind l = record {
  told : All IsTold (lines_of l.left);
  done : (done : List (List ℕ)) × (lines_of l.initial.left ≡ done ++ lines_of l.left) × (l.behind ≡ length done)
      × IsLast done l.row l.last;
  small : l.behind + length l.left ≤ length l.initial.left;
  within : l.behind ≤ l.count;
}

abbrev pub decreases-loop-behind : goal.decreases-loop-behind
decreases-loop-behind l = length l.left
