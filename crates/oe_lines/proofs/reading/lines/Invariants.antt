use Rattle.std.proofs.Common.{◌≡◌, ◌-◌, length}
use Rattle.oe_lines.specs.Reading.{lines_within}
use Rattle.oe_lines.proofs.OrderFacts.{lines_after}
use Rattle.oe_lines.proofs.reading.lines.Given as goal

-- what is left is read behind the lines so far
abbrev pub invariant-loop-left : goal.invariant-loop-left
invariant-loop-left l = lines_within 15 l.fn.text ≡ lines_after l.read l.left

abbrev pub decreases-loop-left : goal.decreases-loop-left
decreases-loop-left l = 15 - length l.read
