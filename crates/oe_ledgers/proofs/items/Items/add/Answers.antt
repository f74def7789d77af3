use Rattle.std.specs.Cmp.{nat_eq_equiv}
use Rattle.oe_tally.specs.Counting.{counts_joined}
use Rattle.oe_tally.specs.CountingLaws.{counts_associative, counts_commutative}
use Rattle.oe_ledgers.specs.Keeping.{item_entry}
use Rattle.oe_ledgers.proofs.KeptFacts.{kept_more, on_ok}
use Rattle.oe_ledgers.proofs.items.Items.add.Goals as goal

pub returns : goal.returns
returns c =
    on_ok c.add.result (λ added facts kept. record {
      by_item = kept_more nat_eq_equiv counts_joined counts_associative counts_commutative item_entry facts
          c.args.fact.now
          c.args.self.now.by_item c.add.new.self _ (λ i. record { rows = c.one.ensures i }) kept.by_item added;
    }) c.add.ensures.ok
