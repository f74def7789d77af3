-- What each reading finds is exactly what stands at the front of the bytes.
use Rattle.oe_rows.specs.Key.{IsDistrictKey, IsCustomerKey}
use Rattle.oe_rows.specs.Warehouse.{IsWarehouse}
use Rattle.oe_rows.specs.District.{IsDistrict}
use Rattle.oe_rows.specs.Customer.{IsCustomer}
use Rattle.oe_rows.specs.History.{IsHistory}
use Rattle.oe_rows.specs.Order.{IsOrder, IsOrderLine}
use Rattle.oe_rows.specs.Item.{IsItem, IsStock}
use Rattle.oe_decode.specs.Fronts.{IsExact}
use Rattle.oe_image.specs.Keys.{warehouse_key, district_key, customer_key, history_key, new_order_key, order_key}
use Rattle.oe_image.specs.Keys.{order_line_key, item_key, stock_key, IsWarehouseKey, IsHistoryKey, IsNewOrderKey}
use Rattle.oe_image.specs.Keys.{IsOrderKey, IsOrderLineKey, IsItemKey, IsStockKey}
use Rattle.oe_decode.specs.KeyFronts.{warehouse_key_at, district_key_at, customer_key_at, history_key_at}
use Rattle.oe_decode.specs.KeyFronts.{new_order_key_at, order_key_at, order_line_key_at, item_key_at, stock_key_at}
use Rattle.oe_image.specs.Rows.{warehouse, district, customer, history, order, order_line, item, stock}
use Rattle.oe_decode.specs.RowFronts.{warehouse_at, district_at, customer_at, history_at, order_at, order_line_at}
use Rattle.oe_decode.specs.RowFronts.{item_at, stock_at}
use Rattle.oe_image.specs.Before.{warehouse_before, district_before, customer_before, order_before, order_line_before}
use Rattle.oe_image.specs.Before.{stock_before}
use Rattle.oe_decode.specs.BeforeRanges.{IsWarehouseBefore, IsDistrictBefore, IsCustomerBefore, IsOrderBefore}
use Rattle.oe_decode.specs.BeforeRanges.{IsOrderLineBefore, IsStockBefore}
use Rattle.oe_decode.specs.BeforeFronts.{warehouse_before_at, district_before_at, customer_before_at, order_before_at}
use Rattle.oe_decode.specs.BeforeFronts.{order_line_before_at, stock_before_at}

pub record Keys_are_read_exactly : Type 0 where
  pub warehouse_keys : IsExact IsWarehouseKey warehouse_key warehouse_key_at
  pub district_keys : IsExact IsDistrictKey district_key district_key_at
  pub customer_keys : IsExact IsCustomerKey customer_key customer_key_at
  pub history_keys : IsExact IsHistoryKey history_key history_key_at
  pub new_order_keys : IsExact IsNewOrderKey new_order_key new_order_key_at
  pub order_keys : IsExact IsOrderKey order_key order_key_at
  pub order_line_keys : IsExact IsOrderLineKey order_line_key order_line_key_at
  pub item_keys : IsExact IsItemKey item_key item_key_at
  pub stock_keys : IsExact IsStockKey stock_key stock_key_at

pub record Rows_are_read_exactly : Type 0 where
  pub warehouses : IsExact IsWarehouse warehouse warehouse_at
  pub districts : IsExact IsDistrict district district_at
  pub customers : IsExact IsCustomer customer customer_at
  pub histories : IsExact IsHistory history history_at
  pub orders : IsExact IsOrder order order_at
  pub order_lines : IsExact IsOrderLine order_line order_line_at
  pub items : IsExact IsItem item item_at
  pub stocks : IsExact IsStock stock stock_at

pub record Changed_columns_are_read_exactly : Type 0 where
  pub warehouses : IsExact IsWarehouseBefore warehouse_before warehouse_before_at
  pub districts : IsExact IsDistrictBefore district_before district_before_at
  pub customers : IsExact IsCustomerBefore customer_before customer_before_at
  pub orders : IsExact IsOrderBefore order_before order_before_at
  pub order_lines : IsExact IsOrderLineBefore order_line_before order_line_before_at
  pub stocks : IsExact IsStockBefore stock_before stock_before_at
