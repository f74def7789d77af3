use Rattle.oe_tally.specs.Counting.{counts_joined}
use Rattle.oe_tally.specs.CountingLaws.{counts_associative, counts_commutative}
use Rattle.oe_ledgers.specs.Sums.{new_orders_joined}
use Rattle.oe_ledgers.specs.SumLaws.{new_orders_associative, new_orders_commutative}
use Rattle.oe_ledgers.specs.Keeping.{new_order_entry, new_order_district_entry}
use Rattle.oe_ledgers.proofs.KeptFacts.{kept_more, on_ok, districts_equal, orders_equal}
use Rattle.oe_ledgers.proofs.new_orders.NewOrders.add.Goals as goal

pub returns : goal.returns
returns c =
    on_ok c.add-2.result (λ added facts kept. record {
      by_order = kept_more orders_equal counts_joined counts_associative counts_commutative new_order_entry facts
          c.args.fact.now
          c.args.self.now.by_order c.add.new.self _ (λ i. record { rows = c.one.ensures i }) kept.by_order
          c.in_default.ensures.ok;
      by_district = kept_more districts_equal new_orders_joined new_orders_associative new_orders_commutative
          new_order_district_entry facts c.args.fact.now
          c.args.self.now.by_district c.add-2.new.self _ c.of.ensures kept.by_district added;
    }) c.add-2.ensures.ok
