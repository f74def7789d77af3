use Rattle.std.specs.Cmp.{nat_eq_equiv}
use Rattle.oe_ledgers.proofs.KeptFacts.{customers_equal, districts_equal, stocks_equal}
use Rattle.oe_earlier.specs.Traces.{traces_joined, residues_joined}
use Rattle.oe_earlier.specs.TraceLaws.{traces_associative, traces_commutative}
use Rattle.oe_earlier.specs.TraceLaws.{residues_associative, residues_commutative}
use Rattle.oe_earlier.proofs.KeptFacts.{same_both, on_both, on_some}
use Rattle.oe_earlier.proofs.traces.Traces.append.Goals as goal

pub returns : goal.returns
returns c =
    on_some c.and-5.result (λ all t u h g. record {
      warehouses =
          same_both nat_eq_equiv traces_joined traces_associative traces_commutative t.warehouses u.warehouses
          c.args.self.now.warehouses c.args.other.warehouses _ all.0.0.0.0.0 h.warehouses g.warehouses;
      districts =
          same_both districts_equal traces_joined traces_associative traces_commutative t.districts u.districts
          c.args.self.now.districts c.args.other.districts _ all.0.0.0.0.1 h.districts g.districts;
      customers =
          same_both customers_equal traces_joined traces_associative traces_commutative t.customers u.customers
          c.args.self.now.customers c.args.other.customers _ all.0.0.0.1 h.customers g.customers;
      items =
          same_both nat_eq_equiv traces_joined traces_associative traces_commutative t.items u.items
          c.args.self.now.items c.args.other.items _ all.0.0.1 h.items g.items;
      stocks =
          same_both stocks_equal traces_joined traces_associative traces_commutative t.stocks u.stocks
          c.args.self.now.stocks c.args.other.stocks _ all.0.1 h.stocks g.stocks;
      residues =
          same_both stocks_equal residues_joined residues_associative residues_commutative t.residues u.residues
          c.args.self.now.residues c.args.other.residues _ all.1 h.residues g.residues;
    })
    (on_both _ _ c.and-4.result c.take_all-in_residues.result c.and-5.result c.and-5.ensures
    (on_both _ _ c.and-3.result c.take_all-in_stocks.result c.and-4.result c.and-4.ensures
    (on_both _ _ c.and-2.result c.take_all-in_items.result c.and-3.result c.and-3.ensures
    (on_both _ _ c.and.result c.take_all-in_customers.result c.and-2.result c.and-2.ensures
    (on_both _ _ c.take_all-in_warehouses.result c.take_all-in_districts.result c.and.result c.and.ensures
    c.take_all-in_warehouses.ensures c.take_all-in_districts.ensures)
    c.take_all-in_customers.ensures)
    c.take_all-in_items.ensures)
    c.take_all-in_stocks.ensures)
    c.take_all-in_residues.ensures)
