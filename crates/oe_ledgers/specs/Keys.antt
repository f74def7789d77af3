-- Keys that are one, and the order of keys: by the columns from the left (clause 1.3.1).
use Rattle.std.specs.Prelude.{Bool, ◌&&◌, nat_eq}
use Rattle.std.specs.declared.cmp.Ordering.{Ordering}
use Rattle.std.specs.Ordering.{nat_cmp, ordering_then}
use Rattle.oe_facts.specs.declared.keys.DistrictId.{DistrictId}
use Rattle.oe_facts.specs.declared.keys.CustomerId.{CustomerId}
use Rattle.oe_facts.specs.declared.keys.OrderId.{OrderId}
use Rattle.oe_facts.specs.declared.keys.StockId.{StockId}
use Rattle.oe_facts.specs.declared.facts.OrderFact.{OrderFact}
use Rattle.oe_facts.specs.declared.facts.OrderLineFact.{OrderLineFact}

abbrev pub same_district : DistrictId → DistrictId → Bool
same_district a b = nat_eq a.warehouse b.warehouse && nat_eq a.district b.district

abbrev pub same_customer : CustomerId → CustomerId → Bool
same_customer a b =
    nat_eq a.warehouse b.warehouse && (nat_eq a.district b.district && nat_eq a.customer b.customer)

abbrev pub same_order : OrderId → OrderId → Bool
same_order a b =
    nat_eq a.warehouse b.warehouse && (nat_eq a.district b.district && nat_eq a.order b.order)

abbrev pub same_stock : StockId → StockId → Bool
same_stock a b = nat_eq a.warehouse b.warehouse && nat_eq a.item b.item

abbrev pub district_cmp : DistrictId → DistrictId → Ordering
district_cmp a b = ordering_then (nat_cmp a.warehouse b.warehouse) (nat_cmp a.district b.district)

abbrev pub customer_cmp : CustomerId → CustomerId → Ordering
customer_cmp a b =
    ordering_then (nat_cmp a.warehouse b.warehouse)
    (ordering_then (nat_cmp a.district b.district) (nat_cmp a.customer b.customer))

abbrev pub order_cmp : OrderId → OrderId → Ordering
order_cmp a b =
    ordering_then (nat_cmp a.warehouse b.warehouse)
    (ordering_then (nat_cmp a.district b.district) (nat_cmp a.order b.order))

abbrev pub stock_cmp : StockId → StockId → Ordering
stock_cmp a b = ordering_then (nat_cmp a.warehouse b.warehouse) (nat_cmp a.item b.item)

-- the district of a customer and of an order, an order's customer, and the STOCK row that supplies a line
abbrev pub district_of_customer : CustomerId → DistrictId
district_of_customer k = record { warehouse = k.warehouse; district = k.district }

abbrev pub district_of_order : OrderId → DistrictId
district_of_order k = record { warehouse = k.warehouse; district = k.district }

abbrev pub customer_of_order : OrderFact → CustomerId
customer_of_order f = record { warehouse = f.key.warehouse; district = f.key.district; customer = f.customer }

abbrev pub stock_of_line : OrderLineFact → StockId
stock_of_line f = record { warehouse = f.supply; item = f.item }
