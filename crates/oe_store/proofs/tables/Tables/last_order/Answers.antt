use Rattle.oe_store.proofs.NewestFacts.{newest_starts}
use Rattle.oe_store.proofs.tables.Tables.last_order.Goals as goal

pub loop-key-init : goal.loop-key-init
loop-key-init c = newest_starts c.args.customer.now _ _ _ c.into_iter-key-iterator.ensures.into_iter_gives
    c.orders_of_customer-key-items.ensures
