use Rattle.std.proofs.Common.{Some}
use Rattle.std.proofs.lemmas.Result.{on_ok_weaker}
use Rattle.oe_model.specs.Changes.{InsertHistory}
use Rattle.oe_store.specs.contracts.tables.Tables.{the_view}
use Rattle.oe_store.proofs.PlaceFacts.{added_history}
use Rattle.oe_store.proofs.SoundFacts.{sound_changed, by_result}
use Rattle.oe_store.proofs.tables.Tables.insert_history.Goals as goal

pub invariant_of-self : goal.invariant_of-self
invariant_of-self c =
    let accepts = rw (← c.self.view_is) at c.requires in
    by_result c.put_new.result
    (λ e. rw e (sound_changed (InsertHistory c.args.key c.args.row) _ accepts tt c.self.invariant))
    (λ e. rw e c.self.invariant) c.put_new.ensures.rows c.put_new.ensures.err

pub returns-clause-place : goal.returns-clause-place
returns-clause-place c = rw (← c.self.view_is)
    (on_ok_weaker c.put_new.result (added_history (the_view c.self.inside) _ c.args.key
    (Some c.args.row)) c.put_new.ensures.ok)
