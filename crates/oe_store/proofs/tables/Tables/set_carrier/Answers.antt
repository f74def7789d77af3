use Rattle.std.proofs.Common.{◌≡◌, refl, Some}
use Rattle.std.specs.FinMap.{get}
use Rattle.oe_rows.specs.declared.orders.Order.{Order}
use Rattle.oe_model.specs.Changes.{UpdateOrder}
use Rattle.oe_store.specs.Places.{rows}
use Rattle.oe_store.specs.contracts.tables.Tables.{the_view}
use Rattle.oe_store.proofs.ColumnFacts.{IsLeft, order_left, some_row}
use Rattle.oe_store.proofs.tables.Tables.set_carrier.Goals as goal

abbrev set : goal.After-set_carrier → Order → Order
set c x = record x { carrier = Some c.args.carrier }

left : (c : goal.After-set_carrier) (x : Order) → get (rows (the_view c.self.inside)).orders c.args.key.now ≡ Some x
    → IsLeft (UpdateOrder c.args.key.now (set c x)) (the_view c.self.inside)
    (record (the_view c.self.inside) { orders = c.set_carrier.new.self.places })
left c x was = order_left (the_view c.self.inside) c.set_carrier.new.self.places c.args.key.now (set c x) x
    (c.set_carrier.ensures.row x was) was refl c.self.invariant

pub invariant_of-self : goal.invariant_of-self
invariant_of-self c = let there = some_row _ (rw (← c.self.view_is) at c.requires) in (left c there.0 there.1).sound

pub returns-clause-rows : goal.returns-clause-rows
returns-clause-rows c = rw (← c.self.view_is) (λ x found. (left c x found).rows)

pub returns-clause-places : goal.returns-clause-places
returns-clause-places c = let there = some_row _ (rw (← c.self.view_is) at c.requires) in
    rw (← c.self.view_is) (left c there.0 there.1).places
