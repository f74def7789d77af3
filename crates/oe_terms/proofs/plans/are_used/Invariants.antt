use Rattle.std.proofs.Common.{◌≡◌, map, take}
use Rattle.oe_terms.specs.Plans.{used_line}
use Rattle.oe_terms.proofs.plans.are_used.Given as goal

-- the lines so far are the ones to use
abbrev pub invariant-loop-line : goal.invariant-loop-line
invariant-loop-line l = map (used_line l.scale) (take l.line-index l.lines) ≡ take l.line-index l.lines
