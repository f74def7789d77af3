use Rattle.oe_earlier.specs.Traces.{residue_of, residues_joined}
use Rattle.oe_earlier.specs.TraceLaws.{residues_associative, residues_commutative}
use Rattle.oe_ledgers.proofs.KeptFacts.{on_ok, stocks_equal}
use Rattle.oe_earlier.proofs.KeptFacts.{one_more}
use Rattle.oe_earlier.proofs.traces.Traces.add_stock.Goals as goal

pub returns : goal.returns
returns c =
    on_ok c.add.result (λ added t h. record {
      warehouses = h.warehouses;
      districts = h.districts;
      customers = h.customers;
      items = h.items;
      stocks = c.in_default.ensures t.stocks h.stocks;
      residues = one_more stocks_equal residues_joined residues_associative residues_commutative t.residues
          c.args.self.now.residues c.add.new.self c.args.row.now.key c.of.result (residue_of c.args.row.now)
          c.of.ensures h.residues added;
    }) c.add.ensures.ok
