use Rattle.oe_tally.specs.Counting.{counts_joined}
use Rattle.oe_tally.specs.CountingLaws.{counts_associative, counts_commutative}
use Rattle.oe_ledgers.specs.Sums.{customers_joined}
use Rattle.oe_ledgers.specs.SumLaws.{customers_associative, customers_commutative}
use Rattle.oe_ledgers.specs.Keeping.{customer_entry, customer_district_entry}
use Rattle.oe_ledgers.proofs.KeptFacts.{kept_more, on_ok, customers_equal, districts_equal}
use Rattle.oe_ledgers.proofs.customers.Customers.add.Goals as goal

pub returns : goal.returns
returns c =
    on_ok c.add-2.result (λ added facts kept. record {
      by_customer = kept_more customers_equal customers_joined customers_associative customers_commutative
          customer_entry facts c.args.fact.now
          c.args.self.now.by_customer c.add.new.self _ c.of.ensures kept.by_customer c.in_default.ensures.ok;
      by_district = kept_more districts_equal counts_joined counts_associative counts_commutative
          customer_district_entry facts c.args.fact.now
          c.args.self.now.by_district c.add-2.new.self _ (λ i. record { rows = c.one.ensures i }) kept.by_district
          added;
    }) c.add-2.ensures.ok
