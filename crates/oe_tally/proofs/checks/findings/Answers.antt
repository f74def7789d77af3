use Rattle.std.proofs.Common.{◌≡◌, ◌∙◌, sym, ap, subst, ◌++◌, append-nil}
use Rattle.oe_tally.specs.Walks.{AreAll, pairs_of_both, findings_of, wrong_at}
use Rattle.oe_tally.proofs.WalkFacts.{are_all}
use Rattle.oe_tally.proofs.checks.findings.Goals as goal

pub returns : goal.returns
returns g c =
    let judge = g.C.Check.judged c.args.check.now in
    let all : c.loop-pair.found.items ≡ findings_of judge (pairs_of_both g.K.Ord.cmp c.args.left.now c.args.right.now) =
    sym (append-nil c.loop-pair.found.items)
    ∙ ap (λ ps. c.loop-pair.found.items ++ findings_of judge ps) (sym c.in_default.ensures.first)
    ∙ c.loop-pair.invariant in
    subst (AreAll g.K.Ord.cmp g.K.PartialEq.eq
    (wrong_at g.K.PartialEq.eq g.A.Join.joined g.B.Join.joined judge c.args.left.now c.args.right.now)) (sym all)
    (are_all g.K.Ord.cmp g.met.K.Ord.total g.met.K.Ord.matches_eq g.A.Join.joined g.B.Join.joined judge
    (g.met.C.Check.nothing c.args.check.now) c.args.left.now c.args.right.now c.requires.left c.requires.right)
