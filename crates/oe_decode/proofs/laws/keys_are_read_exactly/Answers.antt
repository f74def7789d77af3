-- Key by key.
use Rattle.oe_decode.specs.FrontFacts.{exact}
use Rattle.oe_decode.proofs.KeyFacts.{warehouse_key_law, district_key_law, customer_key_law, history_key_law}
use Rattle.oe_decode.proofs.KeyFacts.{new_order_key_law, order_key_law, order_line_key_law, item_key_law, stock_key_law}
use Rattle.oe_decode.proofs.laws.keys_are_read_exactly.Goals as goal

pub returns : goal.returns
returns c = record {
  warehouse_keys = exact warehouse_key_law;
  district_keys = exact district_key_law;
  customer_keys = exact customer_key_law;
  history_keys = exact history_key_law;
  new_order_keys = exact new_order_key_law;
  order_keys = exact order_key_law;
  order_line_keys = exact order_line_key_law;
  item_keys = exact item_key_law;
  stock_keys = exact stock_key_law;
}
