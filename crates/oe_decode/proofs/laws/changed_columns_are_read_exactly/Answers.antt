-- Row by row.
use Rattle.oe_decode.specs.FrontFacts.{exact}
use Rattle.oe_decode.proofs.BeforeRowFacts.{warehouse_before_law, district_before_law, customer_before_law}
use Rattle.oe_decode.proofs.BeforeRowFacts.{order_before_law, order_line_before_law, stock_before_law}
use Rattle.oe_decode.proofs.laws.changed_columns_are_read_exactly.Goals as goal

pub returns : goal.returns
returns c = record {
  warehouses = exact warehouse_before_law;
  districts = exact district_before_law;
  customers = exact customer_before_law;
  orders = exact order_before_law;
  order_lines = exact order_line_before_law;
  stocks = exact stock_before_law;
}
