use Rattle.std.specs.List.{AllWithin}
use Rattle.oe_model.specs.Requests.{IsRequestLine}
use Rattle.oe_admission.proofs.ranges.lines_hold.Given as goal

-- the lines before this one are in their ranges
abbrev pub invariant-loop-line : goal.invariant-loop-line
invariant-loop-line l = AllWithin IsRequestLine l.lines 0 l.line-index
