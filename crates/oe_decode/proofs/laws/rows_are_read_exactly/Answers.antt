-- Row by row.
use Rattle.oe_decode.specs.FrontFacts.{exact}
use Rattle.oe_decode.proofs.RowFacts.{warehouse_law, district_law, customer_law, history_law, order_law, order_line_law}
use Rattle.oe_decode.proofs.RowFacts.{item_law, stock_law}
use Rattle.oe_decode.proofs.laws.rows_are_read_exactly.Goals as goal

pub returns : goal.returns
returns c = record {
  warehouses = exact warehouse_law;
  districts = exact district_law;
  customers = exact customer_law;
  histories = exact history_law;
  orders = exact order_law;
  order_lines = exact order_line_law;
  items = exact item_law;
  stocks = exact stock_law;
}
