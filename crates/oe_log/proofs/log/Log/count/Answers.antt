-- The counts are those of the heads.
use Rattle.std.proofs.Common.{sym, ap, ◌∙◌}
use Rattle.oe_log.proofs.CallFacts.{inside, is_head, count_is}
use Rattle.oe_log.proofs.log.Log.count.Goals as goal

pub returns : goal.returns
returns c =
    rw (← c.self.view_is)
    (ap (λ z. z.count) (is_head c.self.inside.layout (inside c.self.invariant.kept) c.args.terminal c.at.result.now
    c.at.ensures.high
    c.at.ensures.value)
    ∙ sym (count_is c.self.inside.layout (inside c.self.invariant.kept) c.args.terminal))
