use Rattle.std.specs.Cmp.{nat_eq_equiv}
use Rattle.oe_ledgers.proofs.KeptFacts.{districts_equal, customers_equal, orders_equal, stocks_equal}
use Rattle.oe_fact_laws.proofs.ListFacts.{empty_tells}
use Rattle.oe_fact_laws.proofs.lists_are_findings.Goals as goal

pub returns : goal.returns
returns c = record {
  numbers = empty_tells nat_eq_equiv;
  districts = empty_tells districts_equal;
  customers = empty_tells customers_equal;
  orders = empty_tells orders_equal;
  stocks = empty_tells stocks_equal;
}
