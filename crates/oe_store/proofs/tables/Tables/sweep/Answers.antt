use Rattle.oe_store.specs.Places.{Places}
use Rattle.oe_store.specs.contracts.tables.Tables.{the_view}
use Rattle.oe_store.proofs.LostFacts.{swept_places}
use Rattle.oe_store.proofs.tables.Tables.sweep.Goals as goal

pub invariant_of-self : goal.invariant_of-self
invariant_of-self c =
    rw (
      c.sweep.ensures.rows,
      c.sweep-2.ensures.rows,
      c.sweep-3.ensures.rows,
      c.sweep-4.ensures.rows,
      c.sweep-5.ensures.rows,
      c.sweep-6.ensures.rows,
      c.sweep-7.ensures.rows,
      c.sweep-8.ensures.rows,
      c.sweep-9.ensures.rows,
    ) c.self.invariant

pub returns-clause-places : goal.returns-clause-places
returns-clause-places c =
    let new : Places = record (the_view c.self.inside) {
      warehouses = c.sweep.new.self;
      districts = c.sweep-2.new.self;
      customers = c.sweep-3.new.self.places;
      histories = c.sweep-4.new.self;
      new_orders = c.sweep-5.new.self;
      orders = c.sweep-6.new.self.places;
      order_lines = c.sweep-7.new.self;
      items = c.sweep-8.new.self;
      stocks = c.sweep-9.new.self;
    } in
    rw (← c.self.view_is)
    (swept_places (the_view c.self.inside) new c.sweep.ensures.places c.sweep-2.ensures.places c.sweep-3.ensures.places
    c.sweep-4.ensures.places c.sweep-5.ensures.places c.sweep-6.ensures.places c.sweep-7.ensures.places
    c.sweep-8.ensures.places c.sweep-9.ensures.places)
