use Rattle.std.proofs.Common.{rules, ap, sym, ◌∙◌}
use Rattle.oe_queue.specs.Ends.{sent_in}
use Rattle.oe_queue.proofs.Moves.{pushes, as_sending, sent_more}
use Rattle.oe_queue.proofs.ends.SendingEnd.submit.Goals as goal

pub send_as-requires-clause-rule : goal.send_as-requires-clause-rule
send_as-requires-clause-rule g c = (pushes _ _ _ _ _ c.self.invariant.1 (search rules), (λ items views k at. tt))

pub invariant_of-self-2 : goal.invariant_of-self-2
invariant_of-self-2 g c = (c.send_as.ensures.channel.0, as_sending _ _ (c.in_default.ensures.rule _ c.self.invariant.1))

pub returns-clause-ok : goal.returns-clause-ok
returns-clause-ok g c =
    let after = c.send_as.ensures.channel.0 in
    let before = c.self.invariant.0 in
    sent_more c.args.self.now _ _ _ _ c.self.inside.terminal _ _ c.args.message c.self.view_is (after.0 ∙ sym before.0)
    (after.1 ∙ sym before.1) (ap sent_in (c.in_default.ensures.rule _ c.self.invariant.1))
