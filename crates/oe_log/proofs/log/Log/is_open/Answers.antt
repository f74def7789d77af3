-- A terminal is seen open where its head says so.
use Rattle.std.proofs.Common.{◌≡◌, is_some, sym, ap, ◌∙◌}
use Rattle.oe_log.proofs.CallFacts.{inside, is_head, open_is}
use Rattle.oe_log.specs.Log.{active_at}
use Rattle.oe_log.specs.Kept.{log_from}
use Rattle.oe_log.proofs.log.Log.is_open.Goals as goal

pub returns : goal.returns
returns c =
    let is = is_head c.self.inside.layout (inside c.self.invariant.kept) c.args.terminal c.at.result.now
    c.at.ensures.high
    c.at.ensures.value in
    let same : is_some c.at.result.now.active ≡ is_some
    (active_at (log_from c.self.inside.layout c.self.inside.terminals c.self.inside.commits.items c.self.inside.ring)
    c.args.terminal) =
    ap (λ z. is_some z.active) is ∙ sym (open_is c.self.inside.layout (inside c.self.invariant.kept) c.args.terminal) in
    rw (← c.self.view_is) (λ h. sym same ∙ sym c.is_some.ensures ∙ h, λ h. c.is_some.ensures ∙ same ∙ h)
