-- Files in which nothing was told.
use Rattle.std.proofs.Common.{◌≡◌}
use Rattle.oe_file_tables.specs.declared.faults.TableFault.{TableFault}
use Rattle.oe_file_tables.specs.declared.formats.Format.{Format}
use Rattle.oe_file_tables.specs.Fault.{Told}
use Rattle.oe_file_loading.specs.Loading.{Nine}
use Rattle.oe_file_loading.specs.Loaded.{NineRows, FilesTold, FilesRead}
use Rattle.oe_file_tables.proofs.ReadFacts.{table_read_as}
use Rattle.oe_rows.proofs.KeyFacts.{warehouse_total, district_total, customer_total, history_total, new_order_total}
use Rattle.oe_rows.proofs.KeyFacts.{order_total, order_line_total, item_total, stock_total}

pub files_read : (format : Format) (old new : Nine) (f : NineRows) (start told : Told TableFault)
    → FilesTold format old new f start told
    → told.count ≡ 0 → FilesRead format old new f
files_read format old new f start told t e =
    let histories = table_read_as _ _ history_total _ _ _ _ _ _ _ _ t.histories e in
    let new_orders = table_read_as _ _ new_order_total _ _ _ _ _ _ _ _ t.new_orders histories.1 in
    let order_lines = table_read_as _ _ order_line_total _ _ _ _ _ _ _ _ t.order_lines new_orders.1 in
    let orders = table_read_as _ _ order_total _ _ _ _ _ _ _ _ t.orders order_lines.1 in
    let stocks = table_read_as _ _ stock_total _ _ _ _ _ _ _ _ t.stocks orders.1 in
    let items = table_read_as _ _ item_total _ _ _ _ _ _ _ _ t.items stocks.1 in
    let customers = table_read_as _ _ customer_total _ _ _ _ _ _ _ _ t.customers items.1 in
    let districts = table_read_as _ _ district_total _ _ _ _ _ _ _ _ t.districts customers.1 in
    let warehouses = table_read_as _ _ warehouse_total _ _ _ _ _ _ _ _ t.warehouses districts.1 in
    record {
      warehouses = warehouses.0;
      districts = districts.0;
      customers = customers.0;
      histories = histories.0;
      new_orders = new_orders.0;
      orders = orders.0;
      order_lines = order_lines.0;
      items = items.0;
      stocks = stocks.0;
    }
