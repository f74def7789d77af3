use Rattle.std.proofs.Common.{Some}
use Rattle.oe_rows.proofs.KeyFacts.{warehouse_total, exact_warehouse}
use Rattle.oe_model.specs.Changes.{UpdatedWarehouse}
use Rattle.oe_store.specs.contracts.tables.Tables.{the_view}
use Rattle.oe_store.proofs.PlaceFacts.{place_of_row, same_warehouses}
use Rattle.oe_store.proofs.SoundFacts.{sound_put_back}
use Rattle.oe_store.proofs.tables.Tables.put_back_warehouse.Goals as goal

pub invariant_of-self : goal.invariant_of-self
invariant_of-self c = rw c.swap.ensures.rows
    (sound_put_back (UpdatedWarehouse c.args.key (Some c.args.row)) _ (rw (← c.self.view_is) at c.requires.schema) tt
    c.self.invariant)

pub returns-clause-places : goal.returns-clause-places
returns-clause-places c = rw (← c.self.view_is)
    (same_warehouses (the_view c.self.inside) _ c.args.key (Some c.args.row) c.swap.ensures.places
    (place_of_row warehouse_total exact_warehouse _ c.args.key (rw (← c.self.view_is) at c.requires.there)))
