use Rattle.std.proofs.Common.{Some, rules}
use Rattle.std.specs.Int.{IsInRange}
use Rattle.std.proofs.lemmas.Result.{on_ok_weaker}
use Rattle.oe_model.specs.Keys.{order_of_line}
use Rattle.oe_model.specs.Changes.{InsertOrderLine}
use Rattle.oe_store.specs.contracts.tables.Tables.{the_view}
use Rattle.oe_store.proofs.PlaceFacts.{added_order_line}
use Rattle.oe_store.proofs.SoundFacts.{sound_changed, by_result, order_numbered}
use Rattle.oe_store.proofs.tables.Tables.insert_order_line.Goals as goal

pub invariant_of-self : goal.invariant_of-self
invariant_of-self c =
    let accepts = rw (← c.self.view_is) at c.requires in
    let number : IsInRange 1 15 c.args.key.number = search rules in
    by_result c.put_new.result
    (λ e. rw e (sound_changed (InsertOrderLine c.args.key c.args.row) _ accepts
    (order_numbered _ (order_of_line c.args.key) c.self.invariant accepts.1, number) c.self.invariant)) (λ e. rw e
    c.self.invariant) c.put_new.ensures.rows c.put_new.ensures.err

pub returns-clause-place : goal.returns-clause-place
returns-clause-place c = rw (← c.self.view_is)
    (on_ok_weaker c.put_new.result (added_order_line (the_view c.self.inside) _ c.args.key
    (Some c.args.row)) c.put_new.ensures.ok)
