use Rattle.oe_tally.specs.Counting.{counts_joined}
use Rattle.oe_tally.specs.CountingLaws.{counts_associative, counts_commutative}
use Rattle.oe_ledgers.specs.Sums.{lines_joined, supplies_joined}
use Rattle.oe_ledgers.specs.SumLaws.{lines_associative, lines_commutative}
use Rattle.oe_ledgers.specs.SumLaws.{supplies_associative, supplies_commutative}
use Rattle.oe_ledgers.specs.Keeping.{line_entry, line_district_entry, supply_entry}
use Rattle.oe_ledgers.proofs.KeptFacts.{kept_more, on_ok, districts_equal, orders_equal, stocks_equal}
use Rattle.oe_ledgers.proofs.order_lines.OrderLines.add.Goals as goal

pub returns-clause-kept : goal.returns-clause-kept
returns-clause-kept c =
    on_ok c.add-3.result (λ added facts kept. record {
      by_order = kept_more orders_equal lines_joined lines_associative lines_commutative line_entry facts
          c.args.fact.now
          c.args.self.now.by_order c.add.new.self _ c.of.ensures kept.by_order c.in_default.ensures.ok;
      by_district = kept_more districts_equal counts_joined counts_associative counts_commutative line_district_entry
          facts c.args.fact.now
          c.args.self.now.by_district c.add-2.new.self _ (λ i. record { rows = c.one.ensures i }) kept.by_district
          c.in_default-add.ensures.ok;
      by_stock = kept_more stocks_equal supplies_joined supplies_associative supplies_commutative
          (supply_entry c.args.self.now.initial) facts c.args.fact.now
          c.args.self.now.by_stock c.add-3.new.self _ c.of-2.ensures kept.by_stock added;
    }) c.add-3.ensures.ok
