use Rattle.std.proofs.Common.{subst}
use Rattle.oe_queue.specs.Ends.{HasTakenAll}
use Rattle.oe_queue.proofs.Moves.{pops, tells, takes_all, as_taking}
use Rattle.oe_queue.proofs.ends.Taker.take.Goals as goal

pub recv_as-requires-clause-rule : goal.recv_as-requires-clause-rule
recv_as-requires-clause-rule g c = (pops _ _ _ c.self.invariant.1, tells _ _)

pub invariant_of-self : goal.invariant_of-self
invariant_of-self g c = (c.recv_as.ensures.channel.0, as_taking _ _ (c.in-Ok.ensures.rule _ c.self.invariant.1))

pub returns-clause-whole : goal.returns-clause-whole
returns-clause-whole g c =
    let held = c.in_default.ensures.rule.1 in
    subst HasTakenAll c.self.view_is (takes_all _ c.self.invariant.1 held.0 held.1 held.2)
