use Rattle.std.proofs.Common.{◌≡◌, ◌++◌, length, map, drop}
use Rattle.oe_terms.specs.Plans.{used_line}
use Rattle.oe_terms.proofs.plans.used_lines.Given as goal

-- what is still to come completes the lines
abbrev pub invariant-loop-line : goal.invariant-loop-line
invariant-loop-line l =
    (l.used ++ map (used_line l.scale) (drop l.line-index l.lines) ≡ map (used_line l.scale) l.lines)
    × (length l.used ≡ l.line-index)
