use Rattle.std.proofs.Common.{◌≡◌, ◌-◌, ◌∙◌}
use Rattle.oe_log.specs.Log.{total_count}
use Rattle.oe_undo.proofs.undo.Undo.read_record.Goals as goal

pub returns-in-Open-clause-record : goal.returns-in-Open-clause-record
returns-in-Open-clause-record c = rw (← c.self.view_is, c.in-Open.is) c.linked_at.ensures.record

pub returns-in-At-clause-record : goal.returns-in-At-clause-record
returns-in-At-clause-record c =
    let newest : c.get.result ≡ total_count c.self.inside.segments = c.get.ensures.value
    ∙ c.newest-newest.ensures.value in
    let later : c.saturating_sub-later.result ≡ total_count c.self.inside.segments - c.in-At.made =
    c.saturating_sub-later.ensures ∙ (λ i. newest i - c.get-in-At.ensures.value i) in
    rw (← c.self.view_is, c.in-At.is, ← later) c.committed_linked_at.ensures.record
