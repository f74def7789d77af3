use Rattle.std.proofs.Common.{sym, ◌∙◌}
use Rattle.oe_rows.specs.declared.rows.Row.TheVariants as row
use Rattle.oe_model.proofs.PresenceFacts.{some-map}
use Rattle.oe_change.proofs.NameFacts.{stand_still, stand_where}
use Rattle.oe_change.proofs.records.undo.Goals as goal

pub take_back_history-requires-clause-there : goal.take_back_history-requires-clause-there
take_back_history-requires-clause-there c =
    sym (some-map row.History _) ∙ (rw c.in-InsertedHistory.is at c.requires.stands)

pub take_back_history-requires-clause-schema : goal.take_back_history-requires-clause-schema
take_back_history-requires-clause-schema c = rw c.in-InsertedHistory.is at c.requires.schema

pub returns-in-InsertedHistory-clause-rows : goal.returns-in-InsertedHistory-clause-rows
returns-in-InsertedHistory-clause-rows c = rw c.in-InsertedHistory.is c.take_back_history.ensures.rows

pub returns-in-InsertedHistory-clause-places : goal.returns-in-InsertedHistory-clause-places
returns-in-InsertedHistory-clause-places c = c.take_back_history.ensures.places

pub returns-in-InsertedHistory-clause-names : goal.returns-in-InsertedHistory-clause-names
returns-in-InsertedHistory-clause-names c =
    rw c.in-InsertedHistory.is (stand_still _ _ c.take_back_history.ensures.names)

pub take_back_new_order-requires-clause-there : goal.take_back_new_order-requires-clause-there
take_back_new_order-requires-clause-there c =
    sym (some-map row.NewOrder _) ∙ (rw c.in-InsertedNewOrder.is at c.requires.stands)

pub take_back_new_order-requires-clause-schema : goal.take_back_new_order-requires-clause-schema
take_back_new_order-requires-clause-schema c = rw c.in-InsertedNewOrder.is at c.requires.schema

pub returns-in-InsertedNewOrder-clause-rows : goal.returns-in-InsertedNewOrder-clause-rows
returns-in-InsertedNewOrder-clause-rows c = rw c.in-InsertedNewOrder.is c.take_back_new_order.ensures.rows

pub returns-in-InsertedNewOrder-clause-places : goal.returns-in-InsertedNewOrder-clause-places
returns-in-InsertedNewOrder-clause-places c = c.take_back_new_order.ensures.places

pub returns-in-InsertedNewOrder-clause-names : goal.returns-in-InsertedNewOrder-clause-names
returns-in-InsertedNewOrder-clause-names c =
    rw c.in-InsertedNewOrder.is (stand_still _ _ c.take_back_new_order.ensures.names)

pub take_back_order-requires-clause-there : goal.take_back_order-requires-clause-there
take_back_order-requires-clause-there c = sym (some-map row.Order _) ∙ (rw c.in-InsertedOrder.is at c.requires.stands)

pub take_back_order-requires-clause-schema : goal.take_back_order-requires-clause-schema
take_back_order-requires-clause-schema c = rw c.in-InsertedOrder.is at c.requires.schema

pub returns-in-InsertedOrder-clause-rows : goal.returns-in-InsertedOrder-clause-rows
returns-in-InsertedOrder-clause-rows c = rw c.in-InsertedOrder.is c.take_back_order.ensures.rows

pub returns-in-InsertedOrder-clause-places : goal.returns-in-InsertedOrder-clause-places
returns-in-InsertedOrder-clause-places c = c.take_back_order.ensures.places

pub returns-in-InsertedOrder-clause-names : goal.returns-in-InsertedOrder-clause-names
returns-in-InsertedOrder-clause-names c = rw c.in-InsertedOrder.is (stand_still _ _ c.take_back_order.ensures.names)

pub take_back_order_line-requires-clause-there : goal.take_back_order_line-requires-clause-there
take_back_order_line-requires-clause-there c =
    sym (some-map row.OrderLine _) ∙ (rw c.in-InsertedOrderLine.is at c.requires.stands)

pub take_back_order_line-requires-clause-schema : goal.take_back_order_line-requires-clause-schema
take_back_order_line-requires-clause-schema c = rw c.in-InsertedOrderLine.is at c.requires.schema

pub returns-in-InsertedOrderLine-clause-rows : goal.returns-in-InsertedOrderLine-clause-rows
returns-in-InsertedOrderLine-clause-rows c = rw c.in-InsertedOrderLine.is c.take_back_order_line.ensures.rows

pub returns-in-InsertedOrderLine-clause-places : goal.returns-in-InsertedOrderLine-clause-places
returns-in-InsertedOrderLine-clause-places c = c.take_back_order_line.ensures.places

pub returns-in-InsertedOrderLine-clause-names : goal.returns-in-InsertedOrderLine-clause-names
returns-in-InsertedOrderLine-clause-names c =
    rw c.in-InsertedOrderLine.is (stand_still _ _ c.take_back_order_line.ensures.names)

pub put_back_warehouse-requires-clause-there : goal.put_back_warehouse-requires-clause-there
put_back_warehouse-requires-clause-there c =
    sym (some-map row.Warehouse _) ∙ (rw c.in-UpdatedWarehouse.is at c.requires.stands)

pub put_back_warehouse-requires-clause-schema : goal.put_back_warehouse-requires-clause-schema
put_back_warehouse-requires-clause-schema c = rw c.in-UpdatedWarehouse.is at c.requires.schema

pub returns-in-UpdatedWarehouse-clause-rows : goal.returns-in-UpdatedWarehouse-clause-rows
returns-in-UpdatedWarehouse-clause-rows c = rw c.in-UpdatedWarehouse.is c.put_back_warehouse.ensures.rows

pub returns-in-UpdatedWarehouse-clause-places : goal.returns-in-UpdatedWarehouse-clause-places
returns-in-UpdatedWarehouse-clause-places c = c.put_back_warehouse.ensures.places

pub returns-in-UpdatedWarehouse-clause-names : goal.returns-in-UpdatedWarehouse-clause-names
returns-in-UpdatedWarehouse-clause-names c =
    rw c.in-UpdatedWarehouse.is (stand_still _ _ c.put_back_warehouse.ensures.names)

pub put_back_district-requires-clause-there : goal.put_back_district-requires-clause-there
put_back_district-requires-clause-there c =
    sym (some-map row.District _) ∙ (rw c.in-UpdatedDistrict.is at c.requires.stands)

pub put_back_district-requires-clause-schema : goal.put_back_district-requires-clause-schema
put_back_district-requires-clause-schema c = rw c.in-UpdatedDistrict.is at c.requires.schema

pub returns-in-UpdatedDistrict-clause-rows : goal.returns-in-UpdatedDistrict-clause-rows
returns-in-UpdatedDistrict-clause-rows c = rw c.in-UpdatedDistrict.is c.put_back_district.ensures.rows

pub returns-in-UpdatedDistrict-clause-places : goal.returns-in-UpdatedDistrict-clause-places
returns-in-UpdatedDistrict-clause-places c = c.put_back_district.ensures.places

pub returns-in-UpdatedDistrict-clause-names : goal.returns-in-UpdatedDistrict-clause-names
returns-in-UpdatedDistrict-clause-names c =
    rw c.in-UpdatedDistrict.is (stand_still _ _ c.put_back_district.ensures.names)

pub put_back_customer-requires-clause-there : goal.put_back_customer-requires-clause-there
put_back_customer-requires-clause-there c =
    sym (some-map row.Customer _) ∙ (rw c.in-UpdatedCustomer.is at c.requires.stands)

pub put_back_customer-requires-clause-schema : goal.put_back_customer-requires-clause-schema
put_back_customer-requires-clause-schema c = rw c.in-UpdatedCustomer.is at c.requires.schema

pub returns-in-UpdatedCustomer-clause-rows : goal.returns-in-UpdatedCustomer-clause-rows
returns-in-UpdatedCustomer-clause-rows c = rw c.in-UpdatedCustomer.is c.put_back_customer.ensures.rows

pub returns-in-UpdatedCustomer-clause-places : goal.returns-in-UpdatedCustomer-clause-places
returns-in-UpdatedCustomer-clause-places c = c.put_back_customer.ensures.places

pub returns-in-UpdatedCustomer-clause-names : goal.returns-in-UpdatedCustomer-clause-names
returns-in-UpdatedCustomer-clause-names c = rw c.in-UpdatedCustomer.is (c.put_back_customer.ensures.names)

pub put_back_order-requires-clause-there : goal.put_back_order-requires-clause-there
put_back_order-requires-clause-there c = sym (some-map row.Order _) ∙ (rw c.in-UpdatedOrder.is at c.requires.stands)

pub put_back_order-requires-clause-schema : goal.put_back_order-requires-clause-schema
put_back_order-requires-clause-schema c = rw c.in-UpdatedOrder.is at c.requires.schema

pub returns-in-UpdatedOrder-clause-rows : goal.returns-in-UpdatedOrder-clause-rows
returns-in-UpdatedOrder-clause-rows c = rw c.in-UpdatedOrder.is c.put_back_order.ensures.rows

pub returns-in-UpdatedOrder-clause-places : goal.returns-in-UpdatedOrder-clause-places
returns-in-UpdatedOrder-clause-places c = c.put_back_order.ensures.places

pub returns-in-UpdatedOrder-clause-names : goal.returns-in-UpdatedOrder-clause-names
returns-in-UpdatedOrder-clause-names c = rw c.in-UpdatedOrder.is (stand_still _ _ c.put_back_order.ensures.names)

pub put_back_order_line-requires-clause-there : goal.put_back_order_line-requires-clause-there
put_back_order_line-requires-clause-there c =
    sym (some-map row.OrderLine _) ∙ (rw c.in-UpdatedOrderLine.is at c.requires.stands)

pub put_back_order_line-requires-clause-schema : goal.put_back_order_line-requires-clause-schema
put_back_order_line-requires-clause-schema c = rw c.in-UpdatedOrderLine.is at c.requires.schema

pub returns-in-UpdatedOrderLine-clause-rows : goal.returns-in-UpdatedOrderLine-clause-rows
returns-in-UpdatedOrderLine-clause-rows c = rw c.in-UpdatedOrderLine.is c.put_back_order_line.ensures.rows

pub returns-in-UpdatedOrderLine-clause-places : goal.returns-in-UpdatedOrderLine-clause-places
returns-in-UpdatedOrderLine-clause-places c = c.put_back_order_line.ensures.places

pub returns-in-UpdatedOrderLine-clause-names : goal.returns-in-UpdatedOrderLine-clause-names
returns-in-UpdatedOrderLine-clause-names c =
    rw c.in-UpdatedOrderLine.is (stand_still _ _ c.put_back_order_line.ensures.names)

pub put_back_stock-requires-clause-there : goal.put_back_stock-requires-clause-there
put_back_stock-requires-clause-there c = sym (some-map row.Stock _) ∙ (rw c.in-UpdatedStock.is at c.requires.stands)

pub put_back_stock-requires-clause-schema : goal.put_back_stock-requires-clause-schema
put_back_stock-requires-clause-schema c = rw c.in-UpdatedStock.is at c.requires.schema

pub returns-in-UpdatedStock-clause-rows : goal.returns-in-UpdatedStock-clause-rows
returns-in-UpdatedStock-clause-rows c = rw c.in-UpdatedStock.is c.put_back_stock.ensures.rows

pub returns-in-UpdatedStock-clause-places : goal.returns-in-UpdatedStock-clause-places
returns-in-UpdatedStock-clause-places c = c.put_back_stock.ensures.places

pub returns-in-UpdatedStock-clause-names : goal.returns-in-UpdatedStock-clause-names
returns-in-UpdatedStock-clause-names c = rw c.in-UpdatedStock.is (stand_still _ _ c.put_back_stock.ensures.names)

pub refill_new_order-requires-clause-schema : goal.refill_new_order-requires-clause-schema
refill_new_order-requires-clause-schema c = rw c.in-DeletedNewOrder.is at c.requires.schema

pub returns-in-DeletedNewOrder-clause-places : goal.returns-in-DeletedNewOrder-clause-places
returns-in-DeletedNewOrder-clause-places c = c.refill_new_order.ensures.places

pub returns-in-DeletedNewOrder-clause-names : goal.returns-in-DeletedNewOrder-clause-names
returns-in-DeletedNewOrder-clause-names c =
    rw c.in-DeletedNewOrder.is (stand_still _ _ c.refill_new_order.ensures.names)

pub put_back_warehouse_columns-requires-clause-there : goal.put_back_warehouse_columns-requires-clause-there
put_back_warehouse_columns-requires-clause-there c =
    sym (some-map row.Warehouse _) ∙ (rw c.in-ChangedWarehouse.is at c.requires.stands)

pub put_back_warehouse_columns-requires-clause-schema : goal.put_back_warehouse_columns-requires-clause-schema
put_back_warehouse_columns-requires-clause-schema c = rw c.in-ChangedWarehouse.is at c.requires.schema

pub returns-in-ChangedWarehouse-clause-rows : goal.returns-in-ChangedWarehouse-clause-rows
returns-in-ChangedWarehouse-clause-rows c = rw c.in-ChangedWarehouse.is c.put_back_warehouse_columns.ensures.rows

pub returns-in-ChangedWarehouse-clause-places : goal.returns-in-ChangedWarehouse-clause-places
returns-in-ChangedWarehouse-clause-places c = c.put_back_warehouse_columns.ensures.places

pub returns-in-ChangedWarehouse-clause-names : goal.returns-in-ChangedWarehouse-clause-names
returns-in-ChangedWarehouse-clause-names c =
    rw c.in-ChangedWarehouse.is (stand_still _ _ c.put_back_warehouse_columns.ensures.names)

pub put_back_district_columns-requires-clause-there : goal.put_back_district_columns-requires-clause-there
put_back_district_columns-requires-clause-there c =
    sym (some-map row.District _) ∙ (rw c.in-ChangedDistrict.is at c.requires.stands)

pub put_back_district_columns-requires-clause-schema : goal.put_back_district_columns-requires-clause-schema
put_back_district_columns-requires-clause-schema c = rw c.in-ChangedDistrict.is at c.requires.schema

pub returns-in-ChangedDistrict-clause-rows : goal.returns-in-ChangedDistrict-clause-rows
returns-in-ChangedDistrict-clause-rows c = rw c.in-ChangedDistrict.is c.put_back_district_columns.ensures.rows

pub returns-in-ChangedDistrict-clause-places : goal.returns-in-ChangedDistrict-clause-places
returns-in-ChangedDistrict-clause-places c = c.put_back_district_columns.ensures.places

pub returns-in-ChangedDistrict-clause-names : goal.returns-in-ChangedDistrict-clause-names
returns-in-ChangedDistrict-clause-names c =
    rw c.in-ChangedDistrict.is (stand_still _ _ c.put_back_district_columns.ensures.names)

pub put_back_customer_columns-requires-clause-there : goal.put_back_customer_columns-requires-clause-there
put_back_customer_columns-requires-clause-there c =
    sym (some-map row.Customer _) ∙ (rw c.in-ChangedCustomer.is at c.requires.stands)

pub put_back_customer_columns-requires-clause-schema : goal.put_back_customer_columns-requires-clause-schema
put_back_customer_columns-requires-clause-schema c = rw c.in-ChangedCustomer.is at c.requires.schema

pub returns-in-ChangedCustomer-clause-rows : goal.returns-in-ChangedCustomer-clause-rows
returns-in-ChangedCustomer-clause-rows c = rw c.in-ChangedCustomer.is c.put_back_customer_columns.ensures.rows

pub returns-in-ChangedCustomer-clause-places : goal.returns-in-ChangedCustomer-clause-places
returns-in-ChangedCustomer-clause-places c = c.put_back_customer_columns.ensures.places

pub returns-in-ChangedCustomer-clause-names : goal.returns-in-ChangedCustomer-clause-names
returns-in-ChangedCustomer-clause-names c =
    rw c.in-ChangedCustomer.is (stand_where _ _ _ _ c.put_back_customer_columns.ensures.names)

pub put_back_order_columns-requires-clause-there : goal.put_back_order_columns-requires-clause-there
put_back_order_columns-requires-clause-there c =
    sym (some-map row.Order _) ∙ (rw c.in-ChangedOrder.is at c.requires.stands)

pub put_back_order_columns-requires-clause-schema : goal.put_back_order_columns-requires-clause-schema
put_back_order_columns-requires-clause-schema c = rw c.in-ChangedOrder.is at c.requires.schema

pub returns-in-ChangedOrder-clause-places : goal.returns-in-ChangedOrder-clause-places
returns-in-ChangedOrder-clause-places c = c.put_back_order_columns.ensures.places

pub returns-in-ChangedOrder-clause-names : goal.returns-in-ChangedOrder-clause-names
returns-in-ChangedOrder-clause-names c =
    rw c.in-ChangedOrder.is (stand_still _ _ c.put_back_order_columns.ensures.names)

pub put_back_order_line_columns-requires-clause-there : goal.put_back_order_line_columns-requires-clause-there
put_back_order_line_columns-requires-clause-there c =
    sym (some-map row.OrderLine _) ∙ (rw c.in-ChangedOrderLine.is at c.requires.stands)

pub put_back_order_line_columns-requires-clause-schema : goal.put_back_order_line_columns-requires-clause-schema
put_back_order_line_columns-requires-clause-schema c = rw c.in-ChangedOrderLine.is at c.requires.schema

pub returns-in-ChangedOrderLine-clause-rows : goal.returns-in-ChangedOrderLine-clause-rows
returns-in-ChangedOrderLine-clause-rows c = rw c.in-ChangedOrderLine.is c.put_back_order_line_columns.ensures.rows

pub returns-in-ChangedOrderLine-clause-places : goal.returns-in-ChangedOrderLine-clause-places
returns-in-ChangedOrderLine-clause-places c = c.put_back_order_line_columns.ensures.places

pub returns-in-ChangedOrderLine-clause-names : goal.returns-in-ChangedOrderLine-clause-names
returns-in-ChangedOrderLine-clause-names c =
    rw c.in-ChangedOrderLine.is (stand_still _ _ c.put_back_order_line_columns.ensures.names)

pub put_back_stock_columns-requires-clause-there : goal.put_back_stock_columns-requires-clause-there
put_back_stock_columns-requires-clause-there c =
    sym (some-map row.Stock _) ∙ (rw c.in-ChangedStock.is at c.requires.stands)

pub put_back_stock_columns-requires-clause-schema : goal.put_back_stock_columns-requires-clause-schema
put_back_stock_columns-requires-clause-schema c = rw c.in-ChangedStock.is at c.requires.schema

pub returns-in-ChangedStock-clause-rows : goal.returns-in-ChangedStock-clause-rows
returns-in-ChangedStock-clause-rows c = rw c.in-ChangedStock.is c.put_back_stock_columns.ensures.rows

pub returns-in-ChangedStock-clause-places : goal.returns-in-ChangedStock-clause-places
returns-in-ChangedStock-clause-places c = c.put_back_stock_columns.ensures.places

pub returns-in-ChangedStock-clause-names : goal.returns-in-ChangedStock-clause-names
returns-in-ChangedStock-clause-names c =
    rw c.in-ChangedStock.is (stand_still _ _ c.put_back_stock_columns.ensures.names)
