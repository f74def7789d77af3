use Rattle.oe_ledgers.specs.Sums.{customer_orders_joined, district_orders_joined, orders_joined}
use Rattle.oe_ledgers.specs.SumLaws.{customer_orders_associative, customer_orders_commutative}
use Rattle.oe_ledgers.specs.SumLaws.{district_orders_associative, district_orders_commutative}
use Rattle.oe_ledgers.specs.SumLaws.{orders_associative, orders_commutative}
use Rattle.oe_ledgers.specs.Keeping.{order_entry, order_district_entry, order_customer_entry}
use Rattle.oe_ledgers.proofs.KeptFacts.{kept_more, on_ok, customers_equal, districts_equal, orders_equal}
use Rattle.oe_ledgers.proofs.orders.Orders.add.Goals as goal

pub returns-clause-kept : goal.returns-clause-kept
returns-clause-kept c =
    on_ok c.add-3.result (λ added facts kept. record {
      by_order = kept_more orders_equal orders_joined orders_associative orders_commutative order_entry facts
          c.args.fact.now
          c.args.self.now.by_order c.add.new.self _ c.of.ensures kept.by_order c.in_default.ensures.ok;
      by_district = kept_more districts_equal district_orders_joined district_orders_associative
          district_orders_commutative order_district_entry facts c.args.fact.now
          c.args.self.now.by_district c.add-2.new.self _ c.of-2.ensures kept.by_district c.in_default-add.ensures.ok;
      by_customer = kept_more customers_equal customer_orders_joined customer_orders_associative
          customer_orders_commutative (order_customer_entry c.args.self.now.initial) facts c.args.fact.now
          c.args.self.now.by_customer c.add-3.new.self _ c.of-3.ensures kept.by_customer added;
    }) c.add-3.ensures.ok
