use Rattle.std.proofs.Common.{ap}
use Rattle.oe_queue.proofs.Moves.{merges, tells, begins_with, beginning_as}
use Rattle.oe_queue.proofs.ends.Taker.hear.Goals as goal

pub absorb-requires-clause-rule : goal.absorb-requires-clause-rule
absorb-requires-clause-rule c = merges _ _ _ _ _ _ c.self.invariant.1 c.sender.invariant.1

pub learn_as-requires-clause-rule : goal.learn_as-requires-clause-rule
learn_as-requires-clause-rule c = tells _ _

pub returns-clause-beginning : goal.returns-clause-beginning
returns-clause-beginning c =
    let h = begins_with _ _ _ _ _ c.learn_as.ensures.rule.0 c.self.invariant.1 c.sender.invariant.1
    c.absorb.ensures.rule c.learn_as.ensures.rule.1 in
    beginning_as _ _ _ _ _ _ h (ap (λ v. v.terminal) c.sender.view_is) (ap (λ v. v.taken) c.self.view_is)
    (ap (λ v. v.sent) c.sender.view_is)
