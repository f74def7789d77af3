use Rattle.std.proofs.Common.{◌≡◌, ◌↔◌}
use Rattle.oe_report.proofs.comparisons.is_same_walk.Given as goal

-- what is left of the walks is the same exactly where the whole walks are
abbrev pub invariant-loop-key : goal.invariant-loop-key
invariant-loop-key g l = (l.key-iterator ≡ l.right) ↔ (l.fn.left ≡ l.fn.right)
