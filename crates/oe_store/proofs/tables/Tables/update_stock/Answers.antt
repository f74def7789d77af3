use Rattle.std.proofs.Common.{Some}
use Rattle.oe_rows.proofs.KeyFacts.{stock_total, exact_stock}
use Rattle.oe_model.specs.Changes.{UpdateStock}
use Rattle.oe_store.specs.contracts.tables.Tables.{the_view}
use Rattle.oe_store.proofs.PlaceFacts.{place_of_row, same_stocks}
use Rattle.oe_store.proofs.SoundFacts.{sound_changed}
use Rattle.oe_store.proofs.tables.Tables.update_stock.Goals as goal

pub invariant_of-self : goal.invariant_of-self
invariant_of-self c = rw c.swap.ensures.rows
    (sound_changed (UpdateStock c.args.key c.args.row) _ (rw (← c.self.view_is) at c.requires) tt c.self.invariant)

pub returns-clause-places : goal.returns-clause-places
returns-clause-places c = rw (← c.self.view_is)
    (same_stocks (the_view c.self.inside) _ c.args.key (Some c.args.row) c.swap.ensures.places
    (place_of_row stock_total exact_stock _ c.args.key (rw (← c.self.view_is) at c.requires)))
