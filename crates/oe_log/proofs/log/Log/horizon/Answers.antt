-- As many moments before the newest as commits are kept.
use Rattle.std.proofs.Common.{◌≡◌, ◌-◌, ◌∙◌, rules}
use Rattle.oe_log.specs.Kept.{log_from}
use Rattle.oe_log.proofs.CallFacts.{inside, seen_size}
use Rattle.oe_log.proofs.KeptFacts.{horizon_value}
use Rattle.oe_log.proofs.StandsFacts.{horizon_is}
use Rattle.oe_log.proofs.log.Log.horizon.Goals as goal

pub returns-clause-value : goal.returns-clause-value
returns-clause-value c =
    let moment : c.unwrap.result ≡ c.self.inside.newest - c.len-kept.result = search rules in
    rw (← c.self.view_is)
    (horizon_value c.self.inside.layout c.self.invariant.kept c.unwrap.result c.len-kept.result
    (c.len-kept.ensures ∙ c.self.inside.commits.ok.0) moment)

pub returns-clause-moment : goal.returns-clause-moment
returns-clause-moment c =
    let moment : c.unwrap.result ≡ c.self.inside.newest - c.len-kept.result = search rules in
    rw (← c.self.view_is)
    (horizon_is (log_from c.self.inside.layout c.self.inside.terminals c.self.inside.commits.items c.self.inside.ring)
    c.unwrap.result
    (seen_size c.self.inside.layout (inside c.self.invariant.kept))
    (horizon_value c.self.inside.layout c.self.invariant.kept c.unwrap.result c.len-kept.result
    (c.len-kept.ensures ∙ c.self.inside.commits.ok.0)
    moment))
