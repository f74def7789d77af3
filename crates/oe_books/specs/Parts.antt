-- The checks, and their parts.
use Rattle.std.specs.Prelude.{List, [], ◌∷◌, ◌++◌}
use Rattle.oe_books.specs.declared.parts.Part.{Part}
use Rattle.oe_books.specs.declared.parts.Part.TheVariants.{Once, Reference, Extent, Condition, Movement, Before}
use Rattle.oe_books.specs.declared.parts.Check.{Check}
use Rattle.oe_books.specs.declared.parts.Check.TheVariants as check
use Rattle.oe_books.specs.declared.parts.Once.TheVariants as once
use Rattle.oe_books.specs.declared.parts.Reference.TheVariants as reference
use Rattle.oe_books.specs.declared.parts.Extent.TheVariants as extent
use Rattle.oe_books.specs.declared.parts.Condition.TheVariants as condition
use Rattle.oe_books.specs.declared.parts.Movement.TheVariants as movement
use Rattle.oe_books.specs.declared.parts.Before.TheVariants.{Gone, Changed, Moved}
use Rattle.oe_books.specs.declared.parts.Lasting.{Lasting}
use Rattle.oe_books.specs.declared.parts.Lasting.TheVariants as lasting
use Rattle.oe_books.specs.declared.parts.Asked.{Asked}
use Rattle.oe_books.specs.declared.parts.Asked.TheVariants as asked

-- of each earlier row of a table: there is still one, and its columns have the print that they had
abbrev pub lasts : Lasting → List Part → List Part
lasts table parts = Before (Gone table) ∷ Before (Changed table) ∷ parts

abbrev pub parts_of : Check → List Part
parts_of check.Keys =
    Once once.Warehouses ∷ Once once.Districts ∷ Once once.Customers ∷ Once once.NewOrders ∷ Once once.Orders
    ∷ Once once.Lines ∷ Once once.Items ∷ Once once.Stocks ∷ []
parts_of check.References =
    Reference reference.DistrictWarehouse ∷ Reference reference.CustomerDistrict
    ∷ Reference reference.HistoryCustomer ∷ Reference reference.HistoryDistrict ∷ Reference reference.NewOrderOrder
    ∷ Reference reference.OrderCustomer ∷ Reference reference.LineOrder ∷ Reference reference.LineStock
    ∷ Reference reference.StockWarehouse ∷ Reference reference.StockItem ∷ []
parts_of check.Districts = Extent extent.Districts ∷ []
parts_of check.Stocks = Extent extent.Stocks ∷ []
parts_of check.Customers = Extent extent.Customers ∷ []
parts_of check.Orders = Extent extent.Orders ∷ []
parts_of check.Condition1 = Condition condition.First ∷ []
parts_of check.Condition2 = Condition condition.SecondOfOrders ∷ Condition condition.SecondOfNewOrders ∷ []
parts_of check.Condition3 = Condition condition.Third ∷ []
parts_of check.Condition4 = Condition condition.Fourth ∷ []
parts_of check.Condition5 = Condition condition.Fifth ∷ []
parts_of check.Condition6 = Condition condition.Sixth ∷ []
parts_of check.Condition7 = Condition condition.Seventh ∷ []
parts_of check.Condition8 = Condition condition.Eighth ∷ []
parts_of check.Condition9 = Condition condition.Ninth ∷ []
parts_of check.Condition10 = Condition condition.Tenth ∷ []
parts_of check.Condition12 = Condition condition.Twelfth ∷ []
parts_of check.StockYtd = Movement movement.StockYtd ∷ []
parts_of check.StockOrders = Movement movement.StockOrders ∷ []
parts_of check.StockRemote = Movement movement.StockRemote ∷ []
parts_of check.PaymentCount = Movement movement.PaymentCount ∷ []
parts_of check.DeliveryCount = Movement movement.DeliveryCount ∷ []
parts_of check.AllLocal = Movement movement.AllLocal ∷ []
parts_of check.Quantity = Movement movement.Quantity ∷ []
parts_of check.StockBefore = Before (Gone lasting.Stocks) ∷ Before Moved ∷ []
parts_of check.ColumnsBefore =
    lasts lasting.Warehouses (lasts lasting.Districts (lasts lasting.Customers
    (lasts lasting.Items (lasts lasting.Stocks []))))

-- in the order of a report
abbrev pub all_checks : List Check
all_checks =
    check.Keys ∷ check.References ∷ check.Districts ∷ check.Stocks ∷ check.Customers ∷ check.Orders
    ∷ check.Condition1 ∷ check.Condition2 ∷ check.Condition3 ∷ check.Condition4 ∷ check.Condition5 ∷ check.Condition6
    ∷ check.Condition7 ∷ check.Condition8 ∷ check.Condition9 ∷ check.Condition10 ∷ check.Condition12 ∷ check.StockYtd
    ∷ check.StockOrders ∷ check.StockRemote ∷ check.PaymentCount ∷ check.DeliveryCount ∷ check.AllLocal
    ∷ check.Quantity ∷ []

-- those against earlier rows stand behind the others
abbrev pub asked_checks : Asked → List Check
asked_checks asked.Rows = all_checks
asked_checks asked.Earlier = all_checks ++ check.StockBefore ∷ check.ColumnsBefore ∷ []
