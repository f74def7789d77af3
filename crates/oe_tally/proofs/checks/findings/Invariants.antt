use Rattle.std.proofs.Common.{◌≡◌, ◌++◌, ◌+◌, length}
use Rattle.oe_tally.specs.Walks.{pairs_of_both, findings_of}
use Rattle.oe_tally.proofs.checks.findings.Given as goal

-- what was found and what is to be found make what there is to find
abbrev pub invariant-loop-pair : goal.invariant-loop-pair
invariant-loop-pair g l =
    l.found.items ++ findings_of (g.C.Check.judged l.check) (pairs_of_both g.K.Ord.cmp l.pairs.0 l.pairs.1)
    ≡ findings_of (g.C.Check.judged l.check) (pairs_of_both g.K.Ord.cmp l.fn.left l.fn.right)

abbrev pub decreases-loop-pair : goal.decreases-loop-pair
decreases-loop-pair g l = length l.pairs.0 + length l.pairs.1
