use Rattle.std.proofs.Common.{◌≡◌, ◌+◌, ◌≤◌, List, ◌++◌, length}
use Rattle.oe_file_serial.specs.Files.{lines_of, last_of, Untold, Shows}
use Rattle.oe_file_serial.specs.declared.reasons.BadLine.{BadLine}
use Rattle.oe_file_serial.proofs.lines.note_lines.Given as goal

-- what was noted of the lines so far
abbrev pub invariant-loop-line : goal.invariant-loop-line
invariant-loop-line l = record {
  noted : (done : List BadLine) × ((b : List BadLine) → Shows l.initial.bad b → Shows l.bad (b ++ done))
      × ((more : List BadLine) → Untold l.number (lines_of l.left) more
      → Untold 2 (lines_of l.initial.left) (done ++ more));
  number : length (lines_of l.initial.left) + 2 ≡ l.number + length (lines_of l.left);
  last : last_of l.initial.left ≡ last_of l.left;
  small : l.number + length l.left ≤ length l.initial.left + 2;
  count : l.bad.count + 1 ≤ l.number;
}

abbrev pub decreases-loop-line : goal.decreases-loop-line
decreases-loop-line l = length l.left
