use Rattle.std.proofs.Common.{subst, sym}
use Rattle.oe_facts.specs.declared.tables.Fact.{Fact}
use Rattle.oe_earlier.specs.Keeping.{KeepsTraces}
use Rattle.oe_earlier.specs.Traces.{with_row}
use Rattle.oe_ledgers.proofs.KeptFacts.{on_ok}
use Rattle.oe_earlier.proofs.traces.Traces.take.Goals as goal

pub returns-in-Warehouse : goal.returns-in-Warehouse
returns-in-Warehouse c =
    on_ok c.put.result (λ takes t h.
    subst (λ (f : Fact). KeepsTraces (with_row t c.args.print f)
    (record c.args.self.now { warehouses = c.put.new.tally })) (sym c.in-Warehouse.is) (record {
      warehouses = takes t.warehouses h.warehouses;
      districts = h.districts;
      customers = h.customers;
      items = h.items;
      stocks = h.stocks;
      residues = h.residues;
    })) c.put.ensures

pub returns-in-District : goal.returns-in-District
returns-in-District c =
    on_ok c.put-in-District.result (λ takes t h.
    subst (λ (f : Fact). KeepsTraces (with_row t c.args.print f)
    (record c.args.self.now { districts = c.put-in-District.new.tally })) (sym c.in-District.is) (record {
      warehouses = h.warehouses;
      districts = takes t.districts h.districts;
      customers = h.customers;
      items = h.items;
      stocks = h.stocks;
      residues = h.residues;
    })) c.put-in-District.ensures

pub returns-in-Customer : goal.returns-in-Customer
returns-in-Customer c =
    on_ok c.put-in-Customer.result (λ takes t h.
    subst (λ (f : Fact). KeepsTraces (with_row t c.args.print f)
    (record c.args.self.now { customers = c.put-in-Customer.new.tally })) (sym c.in-Customer.is) (record {
      warehouses = h.warehouses;
      districts = h.districts;
      customers = takes t.customers h.customers;
      items = h.items;
      stocks = h.stocks;
      residues = h.residues;
    })) c.put-in-Customer.ensures

pub returns-in-Item : goal.returns-in-Item
returns-in-Item c =
    on_ok c.put-in-Item.result (λ takes t h.
    subst (λ (f : Fact). KeepsTraces (with_row t c.args.print f)
    (record c.args.self.now { items = c.put-in-Item.new.tally })) (sym c.in-Item.is) (record {
      warehouses = h.warehouses;
      districts = h.districts;
      customers = h.customers;
      items = takes t.items h.items;
      stocks = h.stocks;
      residues = h.residues;
    })) c.put-in-Item.ensures

pub returns-in-Stock : goal.returns-in-Stock
returns-in-Stock c =
    on_ok c.add_stock.result (λ takes t h.
    subst (λ (f : Fact). KeepsTraces (with_row t c.args.print f) c.add_stock.new.self) (sym c.in-Stock.is)
    (takes t h)) c.add_stock.ensures
