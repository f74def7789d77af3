use Rattle.std.proofs.Common.{refl}
use Rattle.oe_texts.specs.Dump.{warehouse_columns, district_columns, customer_columns, history_columns}
use Rattle.oe_texts.specs.Dump.{new_order_columns, order_columns, order_line_columns, item_columns, stock_columns}
use Rattle.oe_file_rows.specs.Rows.{warehouse_forms, warehouse_values, district_forms, district_values, customer_forms}
use Rattle.oe_file_rows.specs.Rows.{customer_values, history_forms, history_values, new_order_forms, new_order_values}
use Rattle.oe_file_rows.specs.Rows.{order_forms, order_values, order_line_forms, order_line_values, item_forms}
use Rattle.oe_file_rows.specs.Rows.{item_values, stock_forms, stock_values}
use Rattle.oe_file_rows.specs.Line.{fields_of}
use Rattle.oe_file_rows.proofs.DumpFacts.{read_back, behind_ours, orders_shown, order_lines_shown, stocks_shown}
use Rattle.oe_file_rows.proofs.laws.dumps_are_read.Goals as goal

pub returns : goal.returns
returns c = record {
  warehouses = read_back warehouse_forms warehouse_values (λ r. warehouse_columns r.0 r.1) refl (λ r. refl)
      (λ r. (_, _, refl));
  districts = read_back district_forms district_values (λ r. district_columns r.0 r.1) refl (λ r. refl)
      (λ r. (_, _, refl));
  customers = read_back customer_forms customer_values (λ r. customer_columns r.0 r.1) refl (λ r. refl)
      (λ r. (_, _, refl));
  histories = λ r line are e.
      behind_ours r (fields_of line)
      (read_back history_forms history_values (λ r. history_columns r.0 r.1) refl (λ r. refl) (λ r. (_, _, refl)) r line
      are e);
  new_orders = read_back new_order_forms new_order_values (λ r. new_order_columns r.0) refl (λ r. refl)
      (λ r. (_, _, refl));
  orders = read_back order_forms order_values (λ r. order_columns r.0 r.1) refl orders_shown (λ r. (_, _, refl));
  order_lines = read_back order_line_forms order_line_values (λ r. order_line_columns r.0 r.1) refl order_lines_shown
      (λ r. (_, _, refl));
  items = read_back item_forms item_values (λ r. item_columns r.0 r.1) refl (λ r. refl) (λ r. (_, _, refl));
  stocks = read_back stock_forms stock_values (λ r. stock_columns r.0 r.1) refl stocks_shown (λ r. (_, _, refl));
}
