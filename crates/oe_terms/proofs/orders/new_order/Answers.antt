use Rattle.oe_terms.proofs.ChainFacts.{new_order_drawn}
use Rattle.oe_terms.proofs.orders.new_order.Goals as goal

pub returns : goal.returns
returns c = new_order_drawn c.args.scale.now c.args.terminal c.args.r _ _ _ _ _ _ _ _ _ _ _ _ _ c.home-warehouse.ensures
    c.random-is_unused.ensures.drawn c.district_in-district.ensures c.customer_number-customer.ensures
    c.number_in-count.ensures c.lines-lines.ensures c.stamp_of.ensures
