use Rattle.std.specs.Cmp.{nat_eq_equiv}
use Rattle.oe_ledgers.specs.Sums.{warehouses_joined}
use Rattle.oe_ledgers.specs.SumLaws.{warehouses_associative, warehouses_commutative}
use Rattle.oe_ledgers.specs.Keeping.{warehouse_entry}
use Rattle.oe_ledgers.proofs.KeptFacts.{kept_more, on_ok}
use Rattle.oe_ledgers.proofs.warehouses.Warehouses.add.Goals as goal

pub returns : goal.returns
returns c =
    on_ok c.add.result (λ added facts kept. record {
      by_warehouse = kept_more nat_eq_equiv warehouses_joined warehouses_associative warehouses_commutative
          warehouse_entry facts c.args.fact.now
          c.args.self.now.by_warehouse c.add.new.self _ c.of.ensures kept.by_warehouse added;
    }) c.add.ensures.ok
