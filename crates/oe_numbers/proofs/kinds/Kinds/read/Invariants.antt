use Rattle.std.proofs.Common.{length}
use Rattle.oe_numbers.specs.declared.kinds.Kinds.{Kinds}
use Rattle.oe_numbers.specs.Kinds.{parts_of, none_named}
use Rattle.oe_numbers.proofs.KindFacts.{NameAll}
use Rattle.oe_numbers.proofs.kinds.Kinds.read.Given as goal

-- what is left names the rest
abbrev pub invariant-loop-at : goal.invariant-loop-at
invariant-loop-at l = record {
  towards : (k : Kinds) → NameAll (parts_of l.left) l.kinds k → NameAll (parts_of l.fn.word) none_named k;
  back : (k : Kinds) → NameAll (parts_of l.fn.word) none_named k → NameAll (parts_of l.left) l.kinds k;
}

abbrev pub decreases-loop-at : goal.decreases-loop-at
decreases-loop-at l = length l.left
