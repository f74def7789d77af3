-- The commit of the moment is that of its terminal's number.
use Rattle.std.proofs.Common.{◌≡◌, ◌-◌, ◌∙◌}
use Rattle.oe_log.specs.Log.{total_count}
use Rattle.oe_undo.proofs.ChainedFacts.{committed_given}
use Rattle.oe_undo.proofs.undo.Undo.owned.Goals as goal

pub returns-in_ok-owner-in-Committed-clause-followed : goal.returns-in_ok-owner-in-Committed-clause-followed
returns-in_ok-owner-in-Committed-clause-followed c =
    let whole = rw (← c.self.view_is) at c.is_chained.ensures.whole in
    let made = rw (← c.self.view_is, c.in-Committed.is) at c.requires.made in
    let newest : c.get.result ≡ total_count c.self.inside.segments = c.get.ensures.value ∙ c.newest.ensures.value in
    let later : c.saturating_sub-later.result ≡ total_count c.self.inside.segments - c.in-Committed.moment =
    c.saturating_sub-later.ensures ∙ (λ i. newest i - c.get-in-Committed.ensures.value i) in
    rw (← c.self.view_is, c.in-Committed.is)
    (committed_given c.self.inside.segments c.args.segment whole c.in-Committed.address c.in-Committed.moment
    c.saturating_sub-later.result c.in_ok-owner-in-Committed.owner
    made later c.in_ok-owner-in-Committed.ensures.commit c.in_ok-owner-in-Committed.ensures.number)
