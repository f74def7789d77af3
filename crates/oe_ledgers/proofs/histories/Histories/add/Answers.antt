use Rattle.std.specs.Cmp.{nat_eq_equiv}
use Rattle.oe_ledgers.specs.Sums.{takings_joined}
use Rattle.oe_ledgers.specs.SumLaws.{takings_associative, takings_commutative}
use Rattle.oe_ledgers.specs.Keeping.{customer_payment_entry, district_payment_entry, warehouse_payment_entry}
use Rattle.oe_ledgers.proofs.KeptFacts.{kept_more, on_ok, customers_equal, districts_equal}
use Rattle.oe_ledgers.proofs.histories.Histories.add.Goals as goal

pub returns : goal.returns
returns c =
    on_ok c.add-3.result (λ added facts kept. record {
      by_customer = kept_more customers_equal takings_joined takings_associative takings_commutative
          customer_payment_entry facts c.args.fact.now
          c.args.self.now.by_customer c.add.new.self _ c.of_history.ensures kept.by_customer c.in_default.ensures.ok;
      by_district = kept_more districts_equal takings_joined takings_associative takings_commutative
          district_payment_entry facts c.args.fact.now
          c.args.self.now.by_district c.add-2.new.self _ c.of_history-2.ensures kept.by_district
          c.in_default-add.ensures.ok;
      by_warehouse = kept_more nat_eq_equiv takings_joined takings_associative takings_commutative
          warehouse_payment_entry facts c.args.fact.now
          c.args.self.now.by_warehouse c.add-3.new.self _ c.of_history-3.ensures kept.by_warehouse added;
    }) c.add-3.ensures.ok
