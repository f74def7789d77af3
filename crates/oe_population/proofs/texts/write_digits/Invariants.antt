use Rattle.std.proofs.Common.{◌≡◌, ◌≤◌, ◌++◌, length, drop}
use Rattle.oe_model.specs.Population.{dec}
use Rattle.oe_population.proofs.texts.write_digits.Given as goal

abbrev pub decreases-loop-offset : goal.decreases-loop-offset
decreases-loop-offset l = l.offset

abbrev pub invariant-loop-offset : goal.invariant-loop-offset
invariant-loop-offset l = record {
  within : l.offset ≤ length l.cells;
  kept : length l.cells ≡ length l.fn.cells;
  digits : dec l.left l.offset ++ drop l.offset l.cells ≡ dec l.fn.number (length l.fn.cells);
}
