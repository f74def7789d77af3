use Rattle.std.proofs.Common.{ℕ, List, sym, subst}
use Rattle.oe_numbers.proofs.KindFacts.{NameAll, next_part, last_part, names_by, by_names}
use Rattle.oe_numbers.proofs.kinds.Kinds.read.Goals as goal

pub returns-in_default-kind_of : goal.returns-in_default-kind_of
returns-in_default-kind_of c = λ k h.
    let all = subst (λ (ps : List (List ℕ)). NameAll ps c.loop-at.kinds k)
    (next_part c.loop-at.left.now c.in-Some.at c.in-Some.ensures) (c.loop-at.invariant.back k (by_names _ k h)) in
    c.in_default-kind_of.ensures all.0 all.1

pub returns-in-None : goal.returns-in-None
returns-in-None c = λ k h.
    let all = subst (λ (ps : List (List ℕ)). NameAll ps c.loop-at.kinds k)
    (last_part c.loop-at.left.now c.in_default.ensures) (c.loop-at.invariant.back k (by_names _ k h)) in
    c.in-None.ensures all.0 all.1

pub returns-in-Some-kind_of-2 : goal.returns-in-Some-kind_of-2
returns-in-Some-kind_of-2 c =
    names_by _ _ (c.loop-at.invariant.towards c.with.result
    (subst (λ (ps : List (List ℕ)). NameAll ps c.loop-at.kinds c.with.result)
    (sym (last_part c.loop-at.left.now c.in_default.ensures))
    (c.in-Some-kind_of-2.kind, c.in-Some-kind_of-2.ensures, c.with.ensures)))
