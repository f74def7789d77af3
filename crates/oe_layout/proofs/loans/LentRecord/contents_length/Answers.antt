-- The key's length, and that of the row or its part, are sums of widths and of lengths of texts.
use Rattle.std.proofs.Common.{refl, sym, ◌∙◌}
use Rattle.oe_rows.specs.declared.keys.Key.TheVariants as key
use Rattle.oe_rows.specs.declared.rows.Row.TheVariants as row
use Rattle.oe_image.specs.Parts.{warehouse_part, district_part, customer_part, customer_name_part, order_part}
use Rattle.oe_image.specs.Parts.{order_line_part, stock_part}
use Rattle.oe_layout.proofs.LengthFacts.{key_alone, key_and_row, warehouse_long, district_long, customer_long}
use Rattle.oe_layout.proofs.LengthFacts.{order_long, order_line_long, key_and_columns, changed_warehouse_long}
use Rattle.oe_layout.proofs.LengthFacts.{changed_district_long, changed_customer_long, changed_order_long}
use Rattle.oe_layout.proofs.LengthFacts.{changed_order_line_long, changed_stock_long}
use Rattle.oe_layout.proofs.loans.LentRecord.contents_length.Goals as goal

pub returns-in-InsertedHistory-clause-sum : goal.returns-in-InsertedHistory-clause-sum
returns-in-InsertedHistory-clause-sum c = rw c.in-InsertedHistory.is
    (key_alone (key.History c.in-InsertedHistory.key) _ c.length.ensures.value)

pub returns-in-InsertedNewOrder-clause-sum : goal.returns-in-InsertedNewOrder-clause-sum
returns-in-InsertedNewOrder-clause-sum c = rw c.in-InsertedNewOrder.is
    (key_alone (key.NewOrder c.in-InsertedNewOrder.key) _ c.length-in-InsertedNewOrder.ensures.value)

pub returns-in-InsertedOrder-clause-sum : goal.returns-in-InsertedOrder-clause-sum
returns-in-InsertedOrder-clause-sum c = rw c.in-InsertedOrder.is
    (key_alone (key.Order c.in-InsertedOrder.key) _ c.length-in-InsertedOrder.ensures.value)

pub returns-in-InsertedOrderLine-clause-sum : goal.returns-in-InsertedOrderLine-clause-sum
returns-in-InsertedOrderLine-clause-sum c = rw c.in-InsertedOrderLine.is
    (key_alone (key.OrderLine c.in-InsertedOrderLine.key) _ c.length-in-InsertedOrderLine.ensures.value)

pub returns-in-UpdatedWarehouse-clause-sum : goal.returns-in-UpdatedWarehouse-clause-sum
returns-in-UpdatedWarehouse-clause-sum c =
    rw c.in-UpdatedWarehouse.is
    (key_and_row (key.Warehouse c.in-UpdatedWarehouse.key) (row.Warehouse c.in-UpdatedWarehouse.row.now) _ _
    (warehouse_long c.in-UpdatedWarehouse.row.now) c.length-in-UpdatedWarehouse.ensures.value
    c.length-in-UpdatedWarehouse-2.ensures.value)

pub returns-in-UpdatedDistrict-clause-sum : goal.returns-in-UpdatedDistrict-clause-sum
returns-in-UpdatedDistrict-clause-sum c =
    rw c.in-UpdatedDistrict.is
    (key_and_row (key.District c.in-UpdatedDistrict.key) (row.District c.in-UpdatedDistrict.row.now) _ _
    (district_long c.in-UpdatedDistrict.row.now) c.length-in-UpdatedDistrict.ensures.value
    c.length-in-UpdatedDistrict-2.ensures.value)

pub returns-in-UpdatedCustomer-clause-sum : goal.returns-in-UpdatedCustomer-clause-sum
returns-in-UpdatedCustomer-clause-sum c =
    rw c.in-UpdatedCustomer.is
    (key_and_row (key.Customer c.in-UpdatedCustomer.key) (row.Customer c.in-UpdatedCustomer.row.now) _ _
    (customer_long c.in-UpdatedCustomer.row.now) c.length-in-UpdatedCustomer.ensures.value
    c.length-in-UpdatedCustomer-2.ensures.value)

pub returns-in-UpdatedOrder-clause-sum : goal.returns-in-UpdatedOrder-clause-sum
returns-in-UpdatedOrder-clause-sum c =
    rw c.in-UpdatedOrder.is
    (key_and_row (key.Order c.in-UpdatedOrder.key) (row.Order c.in-UpdatedOrder.row.now) _ _
    (order_long c.in-UpdatedOrder.row.now) c.length-in-UpdatedOrder.ensures.value
    c.length-in-UpdatedOrder-2.ensures.value)

pub returns-in-UpdatedOrderLine-clause-sum : goal.returns-in-UpdatedOrderLine-clause-sum
returns-in-UpdatedOrderLine-clause-sum c =
    rw c.in-UpdatedOrderLine.is
    (key_and_row (key.OrderLine c.in-UpdatedOrderLine.key) (row.OrderLine c.in-UpdatedOrderLine.row.now) _ _
    (order_line_long c.in-UpdatedOrderLine.row.now) c.length-in-UpdatedOrderLine.ensures.value
    c.length-in-UpdatedOrderLine-2.ensures.value)

pub returns-in-UpdatedStock-clause-sum : goal.returns-in-UpdatedStock-clause-sum
returns-in-UpdatedStock-clause-sum c =
    rw c.in-UpdatedStock.is
    (key_and_row (key.Stock c.in-UpdatedStock.key) (row.Stock c.in-UpdatedStock.row.now) _ _
    (record { is = sym c.stock_length.ensures.image ∙ c.stock_length.ensures.sum })
    c.length-in-UpdatedStock.ensures.value c.stock_length.ensures.image)

pub returns-in-DeletedNewOrder-clause-sum : goal.returns-in-DeletedNewOrder-clause-sum
returns-in-DeletedNewOrder-clause-sum c = rw c.in-DeletedNewOrder.is
    (key_alone (key.NewOrder c.in-DeletedNewOrder.key) _ c.length-in-DeletedNewOrder.ensures.value)

pub returns-in-ChangedWarehouse-clause-sum : goal.returns-in-ChangedWarehouse-clause-sum
returns-in-ChangedWarehouse-clause-sum c =
    rw c.in-ChangedWarehouse.is
    (key_and_columns (key.Warehouse c.in-ChangedWarehouse.key) _ _ _ _
    (changed_warehouse_long (warehouse_part c.in-ChangedWarehouse.part))
    c.length-in-ChangedWarehouse.ensures.value c.length-in-ChangedWarehouse-2.ensures.value)

pub returns-in-ChangedDistrict-clause-sum : goal.returns-in-ChangedDistrict-clause-sum
returns-in-ChangedDistrict-clause-sum c =
    rw c.in-ChangedDistrict.is
    (key_and_columns (key.District c.in-ChangedDistrict.key) _ _ _ _
    (changed_district_long (district_part c.in-ChangedDistrict.part))
    c.length-in-ChangedDistrict.ensures.value c.length-in-ChangedDistrict-2.ensures.value)

pub returns-in-ChangedCustomer-clause-sum : goal.returns-in-ChangedCustomer-clause-sum
returns-in-ChangedCustomer-clause-sum c =
    rw c.in-ChangedCustomer.is
    (key_and_columns (key.Customer c.in-ChangedCustomer.key) _ _ _ _
    (changed_customer_long (customer_part c.in-ChangedCustomer.part))
    c.length-in-ChangedCustomer.ensures.value c.length-in-ChangedCustomer-2.ensures.value)

pub returns-in-RenamedCustomer-clause-sum : goal.returns-in-RenamedCustomer-clause-sum
returns-in-RenamedCustomer-clause-sum c =
    rw c.in-RenamedCustomer.is
    (key_and_columns (key.Customer c.in-RenamedCustomer.key) _ _ _ _
    (changed_customer_long (customer_name_part c.in-RenamedCustomer.part))
    c.length-in-RenamedCustomer.ensures.value c.length-in-RenamedCustomer-2.ensures.value)

pub returns-in-ChangedOrder-clause-sum : goal.returns-in-ChangedOrder-clause-sum
returns-in-ChangedOrder-clause-sum c =
    rw c.in-ChangedOrder.is
    (key_and_columns (key.Order c.in-ChangedOrder.key) _ _ _ _
    (changed_order_long (order_part c.in-ChangedOrder.part))
    c.length-in-ChangedOrder.ensures.value c.length-in-ChangedOrder-2.ensures.value)

pub returns-in-ChangedOrderLine-clause-sum : goal.returns-in-ChangedOrderLine-clause-sum
returns-in-ChangedOrderLine-clause-sum c =
    rw c.in-ChangedOrderLine.is
    (key_and_columns (key.OrderLine c.in-ChangedOrderLine.key) _ _ _ _
    (changed_order_line_long (order_line_part c.in-ChangedOrderLine.part))
    c.length-in-ChangedOrderLine.ensures.value c.length-in-ChangedOrderLine-2.ensures.value)

pub returns-in-ChangedStock-clause-sum : goal.returns-in-ChangedStock-clause-sum
returns-in-ChangedStock-clause-sum c =
    rw c.in-ChangedStock.is
    (key_and_columns (key.Stock c.in-ChangedStock.key) _ _ _ _
    (changed_stock_long (stock_part c.in-ChangedStock.part) refl)
    c.length-in-ChangedStock.ensures.value c.length-in-ChangedStock-2.ensures.value)
