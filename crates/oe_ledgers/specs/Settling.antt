-- All sums of a table stand in the order of their keys.
use Rattle.std.specs.Ordering.{nat_cmp}
use Rattle.oe_tally.specs.Tallies.{IsSettled}
use Rattle.oe_ledgers.specs.declared.warehouses.Warehouses.{Warehouses}
use Rattle.oe_ledgers.specs.declared.districts.Districts.{Districts}
use Rattle.oe_ledgers.specs.declared.customers.Customers.{Customers}
use Rattle.oe_ledgers.specs.declared.histories.Histories.{Histories}
use Rattle.oe_ledgers.specs.declared.new_orders.NewOrders.{NewOrders}
use Rattle.oe_ledgers.specs.declared.orders.Orders.{Orders}
use Rattle.oe_ledgers.specs.declared.order_lines.OrderLines.{OrderLines}
use Rattle.oe_ledgers.specs.declared.items.Items.{Items}
use Rattle.oe_ledgers.specs.declared.stocks.Stocks.{Stocks}
use Rattle.oe_ledgers.specs.Keys.{district_cmp, customer_cmp, order_cmp, stock_cmp}

pub record AreSettledWarehouses (kept : Warehouses) : Type 0 where
  pub by_warehouse : IsSettled nat_cmp kept.by_warehouse

pub record AreSettledDistricts (kept : Districts) : Type 0 where
  pub by_district : IsSettled district_cmp kept.by_district
  pub by_warehouse : IsSettled nat_cmp kept.by_warehouse

pub record AreSettledCustomers (kept : Customers) : Type 0 where
  pub by_customer : IsSettled customer_cmp kept.by_customer
  pub by_district : IsSettled district_cmp kept.by_district

pub record AreSettledHistories (kept : Histories) : Type 0 where
  pub by_customer : IsSettled customer_cmp kept.by_customer
  pub by_district : IsSettled district_cmp kept.by_district
  pub by_warehouse : IsSettled nat_cmp kept.by_warehouse

pub record AreSettledNewOrders (kept : NewOrders) : Type 0 where
  pub by_order : IsSettled order_cmp kept.by_order
  pub by_district : IsSettled district_cmp kept.by_district

pub record AreSettledOrders (kept : Orders) : Type 0 where
  pub by_order : IsSettled order_cmp kept.by_order
  pub by_district : IsSettled district_cmp kept.by_district
  pub by_customer : IsSettled customer_cmp kept.by_customer

pub record AreSettledOrderLines (kept : OrderLines) : Type 0 where
  pub by_order : IsSettled order_cmp kept.by_order
  pub by_district : IsSettled district_cmp kept.by_district
  pub by_stock : IsSettled stock_cmp kept.by_stock

pub record AreSettledItems (kept : Items) : Type 0 where
  pub by_item : IsSettled nat_cmp kept.by_item

pub record AreSettledStocks (kept : Stocks) : Type 0 where
  pub by_stock : IsSettled stock_cmp kept.by_stock
  pub by_warehouse : IsSettled nat_cmp kept.by_warehouse
  pub by_item : IsSettled nat_cmp kept.by_item
