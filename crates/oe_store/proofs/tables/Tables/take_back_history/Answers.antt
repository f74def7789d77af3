use Rattle.std.proofs.Common.{None}
use Rattle.oe_rows.proofs.KeyFacts.{history_total, exact_history}
use Rattle.oe_model.specs.Changes.{InsertedHistory}
use Rattle.oe_store.specs.contracts.tables.Tables.{the_view}
use Rattle.oe_store.proofs.PlaceFacts.{place_of_row, same_histories}
use Rattle.oe_store.proofs.SoundFacts.{sound_put_back}
use Rattle.oe_store.proofs.tables.Tables.take_back_history.Goals as goal

pub invariant_of-self : goal.invariant_of-self
invariant_of-self c = rw c.blank.ensures.rows
    (sound_put_back (InsertedHistory c.args.key None) _ (rw (← c.self.view_is) at c.requires.schema) tt
    c.self.invariant)

pub returns-clause-places : goal.returns-clause-places
returns-clause-places c = rw (← c.self.view_is)
    (same_histories (the_view c.self.inside) _ c.args.key None c.blank.ensures.places
    (place_of_row history_total exact_history _ c.args.key (rw (← c.self.view_is) at c.requires.there)))
