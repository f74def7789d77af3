use Rattle.std.proofs.Common.{◌≡◌, ◌++◌, map}
use Rattle.oe_comparison.proofs.histories.without_keys.Given as goal

-- the rows so far, and those that are left
abbrev pub invariant-loop-each : goal.invariant-loop-each
invariant-loop-each l =
    l.rows.items ++ map (λ n. n.row) l.each-iterator ≡ map (λ n. n.row) l.fn.numbered
