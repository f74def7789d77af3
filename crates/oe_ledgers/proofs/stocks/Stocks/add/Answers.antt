use Rattle.std.specs.Cmp.{nat_eq_equiv}
use Rattle.oe_tally.specs.Counting.{counts_joined}
use Rattle.oe_tally.specs.CountingLaws.{counts_associative, counts_commutative}
use Rattle.oe_ledgers.specs.Sums.{stocks_joined}
use Rattle.oe_ledgers.specs.SumLaws.{stocks_associative, stocks_commutative}
use Rattle.oe_ledgers.specs.Keeping.{stock_entry, stock_warehouse_entry, stock_item_entry}
use Rattle.oe_ledgers.proofs.KeptFacts.{kept_more, on_ok, stocks_equal}
use Rattle.oe_ledgers.proofs.stocks.Stocks.add.Goals as goal

pub returns : goal.returns
returns c =
    on_ok c.add-3.result (λ added facts kept. record {
      by_stock = kept_more stocks_equal stocks_joined stocks_associative stocks_commutative stock_entry facts
          c.args.fact.now
          c.args.self.now.by_stock c.add.new.self _ c.of.ensures kept.by_stock c.in_default.ensures.ok;
      by_warehouse = kept_more nat_eq_equiv counts_joined counts_associative counts_commutative stock_warehouse_entry
          facts c.args.fact.now
          c.args.self.now.by_warehouse c.add-2.new.self _ (λ i. record { rows = c.one.ensures i }) kept.by_warehouse
          c.in_default-add.ensures.ok;
      by_item = kept_more nat_eq_equiv counts_joined counts_associative counts_commutative stock_item_entry facts
          c.args.fact.now
          c.args.self.now.by_item c.add-3.new.self _ (λ i. record { rows = c.one-2.ensures i }) kept.by_item added;
    }) c.add-3.ensures.ok
