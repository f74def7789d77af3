use Rattle.std.proofs.Common.{◌≡◌, ◌++◌, map}
use Rattle.oe_comparison.proofs.histories.copied.Given as goal

-- the rows so far, and those that are left
abbrev pub invariant-loop-key : goal.invariant-loop-key
invariant-loop-key l = l.rows.items ++ map (λ e. e.1) l.key-iterator ≡ map (λ e. e.1) l.fn.ours
