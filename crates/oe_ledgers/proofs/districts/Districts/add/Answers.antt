use Rattle.std.specs.Cmp.{nat_eq_equiv}
use Rattle.oe_ledgers.specs.Sums.{districts_joined, takings_joined}
use Rattle.oe_ledgers.specs.SumLaws.{districts_associative, districts_commutative}
use Rattle.oe_ledgers.specs.SumLaws.{takings_associative, takings_commutative}
use Rattle.oe_ledgers.specs.Keeping.{district_entry, district_ytd_entry}
use Rattle.oe_ledgers.proofs.KeptFacts.{kept_more, on_ok, districts_equal}
use Rattle.oe_ledgers.proofs.districts.Districts.add.Goals as goal

pub returns : goal.returns
returns c =
    on_ok c.add-2.result (λ added facts kept. record {
      by_district = kept_more districts_equal districts_joined districts_associative districts_commutative
          district_entry facts c.args.fact.now
          c.args.self.now.by_district c.add.new.self _ c.of.ensures kept.by_district c.in_default.ensures.ok;
      by_warehouse = kept_more nat_eq_equiv takings_joined takings_associative takings_commutative district_ytd_entry
          facts c.args.fact.now
          c.args.self.now.by_warehouse c.add-2.new.self _ c.of_district.ensures kept.by_warehouse added;
    }) c.add-2.ensures.ok
