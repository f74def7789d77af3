-- The names of checks, and of the figures that their parts compare.
use Rattle.std.specs.Prelude.{ℕ, Bool, true, false, List, [], codes}
use Rattle.oe_books.specs.declared.parts.Check.{Check}
use Rattle.oe_books.specs.declared.parts.Check.TheVariants as check
use Rattle.oe_books.specs.declared.parts.Part.{Part}
use Rattle.oe_books.specs.declared.parts.Part.TheVariants as part
use Rattle.oe_books.specs.declared.parts.Once.{Once}
use Rattle.oe_books.specs.declared.parts.Once.TheVariants as once
use Rattle.oe_books.specs.declared.parts.Reference.{Reference}
use Rattle.oe_books.specs.declared.parts.Reference.TheVariants as reference
use Rattle.oe_books.specs.declared.parts.Extent.{Extent}
use Rattle.oe_books.specs.declared.parts.Extent.TheVariants as extent
use Rattle.oe_books.specs.declared.parts.Condition.{Condition}
use Rattle.oe_books.specs.declared.parts.Condition.TheVariants as condition
use Rattle.oe_books.specs.declared.parts.Movement.{Movement}
use Rattle.oe_books.specs.declared.parts.Movement.TheVariants as movement
use Rattle.oe_books.specs.declared.parts.Before.{Before}
use Rattle.oe_books.specs.declared.parts.Before.TheVariants as before
use Rattle.oe_books.specs.declared.parts.Lasting.{Lasting}
use Rattle.oe_books.specs.declared.parts.Lasting.TheVariants as lasting
use Rattle.oe_audit_report.specs.declared.figures.Label.{Label}

abbrev pub name_of : Check → List ℕ
name_of check.Keys = codes "keys"
name_of check.References = codes "references"
name_of check.Districts = codes "districts"
name_of check.Stocks = codes "stocks"
name_of check.Customers = codes "customers"
name_of check.Orders = codes "orders"
name_of check.Condition1 = codes "condition 1"
name_of check.Condition2 = codes "condition 2"
name_of check.Condition3 = codes "condition 3"
name_of check.Condition4 = codes "condition 4"
name_of check.Condition5 = codes "condition 5"
name_of check.Condition6 = codes "condition 6"
name_of check.Condition7 = codes "condition 7"
name_of check.Condition8 = codes "condition 8"
name_of check.Condition9 = codes "condition 9"
name_of check.Condition10 = codes "condition 10"
name_of check.Condition12 = codes "condition 12"
name_of check.StockYtd = codes "stock ytd"
name_of check.StockOrders = codes "stock orders"
name_of check.StockRemote = codes "stock remote"
name_of check.PaymentCount = codes "payment count"
name_of check.DeliveryCount = codes "delivery count"
name_of check.AllLocal = codes "all local"
name_of check.Quantity = codes "quantity"
name_of check.StockBefore = codes "stock before"
name_of check.ColumnsBefore = codes "columns before"

-- what the key is of, the names of both figures, and whether these are money
abbrev pub Names : Type 0
Names = List ℕ × List ℕ × List ℕ × Bool

abbrev pub names_in : Label → Names
names_in l = (l.row.now, l.first.now, l.second.now, l.is_money)

abbrev pub once_label : Once → Names
once_label once.Warehouses = (codes "warehouse", codes "rows", codes "allowed", false)
once_label once.Districts = (codes "district", codes "rows", codes "allowed", false)
once_label once.Customers = (codes "customer", codes "rows", codes "allowed", false)
once_label once.NewOrders = (codes "neworder", codes "rows", codes "allowed", false)
once_label once.Orders = (codes "order", codes "rows", codes "allowed", false)
once_label once.Lines = (codes "orderline", codes "rows", codes "numbers", false)
once_label once.Items = (codes "item", codes "rows", codes "allowed", false)
once_label once.Stocks = (codes "stock", codes "rows", codes "allowed", false)

abbrev pub reference_label : Reference → Names
reference_label reference.DistrictWarehouse = (codes "warehouse", codes "DISTRICT rows", codes "WAREHOUSE rows", false)
reference_label reference.CustomerDistrict = (codes "district", codes "CUSTOMER rows", codes "DISTRICT rows", false)
reference_label reference.HistoryCustomer = (codes "customer", codes "HISTORY rows", codes "CUSTOMER rows", false)
reference_label reference.HistoryDistrict = (codes "district", codes "HISTORY rows", codes "DISTRICT rows", false)
reference_label reference.NewOrderOrder = (codes "order", codes "NEW-ORDER rows", codes "ORDER rows", false)
reference_label reference.OrderCustomer = (codes "customer", codes "ORDER rows", codes "CUSTOMER rows", false)
reference_label reference.LineOrder = (codes "order", codes "ORDER-LINE rows", codes "ORDER rows", false)
reference_label reference.LineStock = (codes "stock", codes "ORDER-LINE rows", codes "STOCK rows", false)
reference_label reference.StockWarehouse = (codes "warehouse", codes "STOCK rows", codes "WAREHOUSE rows", false)
reference_label reference.StockItem = (codes "item", codes "STOCK rows", codes "ITEM rows", false)

abbrev pub extent_label : Extent → Names
extent_label extent.Districts = ([], codes "wanted", codes "DISTRICT rows", false)
extent_label extent.Stocks = ([], codes "wanted", codes "STOCK rows", false)
extent_label extent.Customers = ([], codes "wanted", codes "CUSTOMER rows", false)
extent_label extent.Orders = ([], codes "greatest O_ID", codes "ORDER rows", false)

abbrev pub condition_label : Condition → Names
condition_label condition.First = ([], codes "W_YTD", codes "sum of D_YTD", true)
condition_label condition.SecondOfOrders = ([], codes "D_NEXT_O_ID", codes "next after ORDER rows", false)
condition_label condition.SecondOfNewOrders = ([], codes "D_NEXT_O_ID", codes "next after NEW-ORDER rows", false)
condition_label condition.Third = ([], codes "span of NO_O_ID", codes "NEW-ORDER rows", false)
condition_label condition.Fourth = ([], codes "sum of O_OL_CNT", codes "ORDER-LINE rows", false)
condition_label condition.Fifth = ([], codes "lacks O_CARRIER_ID", codes "NEW-ORDER rows", false)
condition_label condition.Sixth = ([], codes "O_OL_CNT", codes "ORDER-LINE rows", false)
condition_label condition.Seventh = ([], codes "lines to be delivered", codes "lines with OL_DELIVERY_D", false)
condition_label condition.Eighth = ([], codes "W_YTD", codes "sum of H_AMOUNT", true)
condition_label condition.Ninth = ([], codes "D_YTD", codes "sum of H_AMOUNT", true)
condition_label condition.Tenth = ([], codes "C_BALANCE", codes "delivered less paid", true)
condition_label condition.Twelfth = ([], codes "C_BALANCE and C_YTD_PAYMENT", codes "delivered", true)

abbrev pub movement_label : Movement → Names
movement_label movement.StockYtd = ([], codes "S_YTD", codes "sum of OL_QUANTITY", false)
movement_label movement.StockOrders = ([], codes "S_ORDER_CNT", codes "ORDER-LINE rows", false)
movement_label movement.StockRemote = ([], codes "S_REMOTE_CNT", codes "remote ORDER-LINE rows", false)
movement_label movement.PaymentCount = ([], codes "C_PAYMENT_CNT", codes "HISTORY rows", false)
movement_label movement.DeliveryCount = ([], codes "C_DELIVERY_CNT", codes "delivered orders", false)
movement_label movement.AllLocal = ([], codes "remote by O_ALL_LOCAL", codes "by its lines", false)
movement_label movement.Quantity = ([], codes "S_QUANTITY", codes "bound", false)

abbrev pub lasting_name : Lasting → List ℕ
lasting_name lasting.Warehouses = codes "warehouse"
lasting_name lasting.Districts = codes "district"
lasting_name lasting.Customers = codes "customer"
lasting_name lasting.Items = codes "item"
lasting_name lasting.Stocks = codes "stock"

abbrev pub before_label : Before → Names
before_label (before.Gone table) = (lasting_name table, codes "rows before", codes "rows now", false)
before_label (before.Changed table) = (lasting_name table, codes "print before", codes "print now", false)
before_label before.Moved = ([], codes "(S_QUANTITY + S_YTD) mod 91", codes "now", false)

abbrev pub label_of : Part → Names
label_of (part.Once p) = once_label p
label_of (part.Reference p) = reference_label p
label_of (part.Extent p) = extent_label p
label_of (part.Condition p) = condition_label p
label_of (part.Movement p) = movement_label p
label_of (part.Before p) = before_label p
