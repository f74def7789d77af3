-- Each head is seen as a commit.
use Rattle.std.proofs.Common.{sym, ◌∙◌}
use Rattle.oe_log.proofs.CallFacts.{inside, seen_commits}
use Rattle.oe_log.proofs.log.Log.kept.Goals as goal

pub returns : goal.returns
returns c = rw (← c.self.view_is) (c.len.ensures ∙ c.self.inside.commits.ok.0
    ∙ sym (seen_commits c.self.inside.layout (inside c.self.invariant.kept)))
