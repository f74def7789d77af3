-- What each check finds.
use Rattle.std.specs.Prelude.{◌≡◌, ℕ, nat_eq, Bool, List, map, Option}
use Rattle.std.specs.List.{AllZip}
use Rattle.std.specs.Ordering.{nat_cmp}
use Rattle.std.specs.declared.cmp.Ordering.{Ordering}
use Rattle.oe_tally.specs.Walks.{AreAll}
use Rattle.oe_ledgers.specs.Keys.{district_cmp, customer_cmp, order_cmp, stock_cmp}
use Rattle.oe_ledgers.specs.Keys.{same_district, same_customer, same_order, same_stock}
use Rattle.oe_line_numbers.specs.Numbers.{block_cmp, same_block}
use Rattle.oe_line_numbers.specs.Blocks.{lines_once}
use Rattle.oe_checks.specs.declared.figures.Apart.{Apart}
use Rattle.oe_facts.specs.declared.keys.DistrictId.{DistrictId}
use Rattle.oe_facts.specs.declared.keys.CustomerId.{CustomerId}
use Rattle.oe_facts.specs.declared.keys.OrderId.{OrderId}
use Rattle.oe_facts.specs.declared.keys.StockId.{StockId}
use Rattle.oe_line_numbers.specs.declared.numbers.LineBlock.{LineBlock}
use Rattle.oe_checks.specs.Keys.{warehouses_once, districts_once, customers_once, new_orders_once, orders_once}
use Rattle.oe_checks.specs.Keys.{items_once, stocks_once}
use Rattle.oe_checks.specs.References.{districts_refer, customers_refer, histories_refer_to_customers}
use Rattle.oe_checks.specs.References.{histories_refer_to_districts, new_orders_refer, orders_refer}
use Rattle.oe_checks.specs.References.{lines_refer_to_orders, lines_refer_to_stocks, stocks_refer_to_warehouses}
use Rattle.oe_checks.specs.References.{stocks_refer_to_items}
use Rattle.oe_checks.specs.Schema.{ten_districts, orders_without_gap}
use Rattle.oe_checks.specs.Sizes.{stock_apart, customers_each}
use Rattle.oe_checks.specs.Conditions.{condition_1, condition_2_of_orders, condition_2_of_new_orders, condition_3}
use Rattle.oe_checks.specs.Conditions.{condition_4, condition_5, condition_6, condition_7, condition_8, condition_9}
use Rattle.oe_checks.specs.Accounts.{condition_10, condition_12}
use Rattle.oe_checks.specs.Movements.{stock_ytd, stock_orders, stock_remote, payment_count, delivery_count, all_local}
use Rattle.oe_checks.specs.Movements.{stock_quantity}
use Rattle.oe_books.specs.declared.parts.Part.{Part}
use Rattle.oe_books.specs.declared.parts.Check.{Check}
use Rattle.oe_books.specs.declared.parts.Part.TheVariants as part
use Rattle.oe_books.specs.declared.parts.Once.{Once}
use Rattle.oe_books.specs.declared.parts.Once.TheVariants as once
use Rattle.oe_books.specs.declared.parts.Reference.{Reference}
use Rattle.oe_books.specs.declared.parts.Reference.TheVariants as reference
use Rattle.oe_books.specs.declared.parts.Extent.{Extent}
use Rattle.oe_books.specs.declared.parts.Extent.TheVariants as extent
use Rattle.oe_books.specs.declared.parts.Condition.{Condition}
use Rattle.oe_books.specs.declared.parts.Condition.TheVariants as condition
use Rattle.oe_books.specs.declared.parts.Movement.{Movement}
use Rattle.oe_books.specs.declared.parts.Movement.TheVariants as movement
use Rattle.oe_books.specs.declared.closing.Settled.{Settled}
use Rattle.oe_books.specs.declared.findings.Finding.{Finding}
use Rattle.oe_books.specs.declared.findings.TableRows.{TableRows}
use Rattle.oe_books.specs.declared.findings.Results.{Results}
use Rattle.oe_books.specs.declared.findings.PartFound.{PartFound}
use Rattle.oe_books.specs.declared.findings.CheckFound.{CheckFound}
use Rattle.oe_books.specs.declared.parts.Lasting.{Lasting}
use Rattle.oe_books.specs.declared.parts.Lasting.TheVariants as lasting
use Rattle.oe_books.specs.declared.parts.Before.{Before}
use Rattle.oe_books.specs.declared.parts.Before.TheVariants as before
use Rattle.oe_books.specs.Parts.{parts_of}
use Rattle.oe_earlier.specs.Changes.{loss_apart, change_apart, residue_apart}
use Rattle.oe_earlier.specs.Traces.{Traced}
use Rattle.oe_books.specs.Facts.{Facts, rows_of}
use Rattle.oe_books.specs.Closing.{tables}
use Rattle.oe_books.specs.Keys.{of_number, of_district, of_customer, of_order, of_stock, of_block}

-- a key and what is wrong there, by the key's numbers
abbrev pub finding_of : {K : Type 0} → (K → List ℕ) → K × Apart → Finding
finding_of numbers e = record { key = numbers e.0; apart = e.1 }

-- the list has the keys at which something is wrong, all of them and no others, in their order, each with both figures
pub record Lists {K : Type 0} (numbers : K → List ℕ) (cmp : K → K → Ordering) (same : K → K → Bool)
    (wrong : K → Option Apart) (found : List Finding) : Type 0 where
  pub entries : List (K × Apart)
  pub are_all : AreAll cmp same wrong entries
  pub found_are : found ≡ map (finding_of numbers) entries

-- the same by the keys' kinds
abbrev pub OfNumbers : (ℕ → Option Apart) → List Finding → Type 0
OfNumbers = Lists of_number nat_cmp nat_eq

abbrev pub OfDistricts : (DistrictId → Option Apart) → List Finding → Type 0
OfDistricts = Lists of_district district_cmp same_district

abbrev pub OfCustomers : (CustomerId → Option Apart) → List Finding → Type 0
OfCustomers = Lists of_customer customer_cmp same_customer

abbrev pub OfOrders : (OrderId → Option Apart) → List Finding → Type 0
OfOrders = Lists of_order order_cmp same_order

abbrev pub OfStocks : (StockId → Option Apart) → List Finding → Type 0
OfStocks = Lists of_stock stock_cmp same_stock

abbrev pub OfBlocks : (LineBlock → Option Apart) → List Finding → Type 0
OfBlocks = Lists of_block block_cmp same_block

-- the number of orders that the population had in each district
abbrev pub initial_of : Settled → ℕ
initial_of s = s.books.orders.kept.initial

-- how many rows each table has
abbrev pub rows_each : Facts → List TableRows
rows_each t = map (λ name. record { table = name; rows = rows_of t name }) tables

-- Of what earlier rows brought to their keys, and of what rows bring now.
module _ (b n : Traced) where
  abbrev pub AreGone : Lasting → List Finding → Type 0
  AreGone lasting.Warehouses = OfNumbers (loss_apart nat_eq b.warehouses n.warehouses)
  AreGone lasting.Districts = OfDistricts (loss_apart same_district b.districts n.districts)
  AreGone lasting.Customers = OfCustomers (loss_apart same_customer b.customers n.customers)
  AreGone lasting.Items = OfNumbers (loss_apart nat_eq b.items n.items)
  AreGone lasting.Stocks = OfStocks (loss_apart same_stock b.stocks n.stocks)

  abbrev pub AreChanged : Lasting → List Finding → Type 0
  AreChanged lasting.Warehouses = OfNumbers (change_apart nat_eq b.warehouses n.warehouses)
  AreChanged lasting.Districts = OfDistricts (change_apart same_district b.districts n.districts)
  AreChanged lasting.Customers = OfCustomers (change_apart same_customer b.customers n.customers)
  AreChanged lasting.Items = OfNumbers (change_apart nat_eq b.items n.items)
  AreChanged lasting.Stocks = OfStocks (change_apart same_stock b.stocks n.stocks)

  abbrev pub IsCompared : Before → List Finding → Type 0
  IsCompared (before.Gone table) = AreGone table
  IsCompared (before.Changed table) = AreChanged table
  IsCompared before.Moved = OfStocks (residue_apart b.residues n.residues)

-- Of these facts, where the population had `initial` orders in each district, and a district has `each` customers.
module _ (initial each : ℕ) (t : Facts) where
  abbrev pub AreOnce : Once → List Finding → Type 0
  AreOnce once.Warehouses = OfNumbers (warehouses_once t.warehouses)
  AreOnce once.Districts = OfDistricts (districts_once t.districts)
  AreOnce once.Customers = OfCustomers (customers_once t.customers)
  AreOnce once.NewOrders = OfOrders (new_orders_once t.new_orders)
  AreOnce once.Orders = OfOrders (orders_once t.orders)
  AreOnce once.Lines = OfBlocks (lines_once t.lines)
  AreOnce once.Items = OfNumbers (items_once t.items)
  AreOnce once.Stocks = OfStocks (stocks_once t.stocks)

  abbrev pub Refers : Reference → List Finding → Type 0
  Refers reference.DistrictWarehouse = OfNumbers (districts_refer t.districts t.warehouses)
  Refers reference.CustomerDistrict = OfDistricts (customers_refer t.customers t.districts)
  Refers reference.HistoryCustomer = OfCustomers (histories_refer_to_customers t.histories t.customers)
  Refers reference.HistoryDistrict = OfDistricts (histories_refer_to_districts t.histories t.districts)
  Refers reference.NewOrderOrder = OfOrders (new_orders_refer t.new_orders t.orders)
  Refers reference.OrderCustomer = OfCustomers (orders_refer t.orders t.customers)
  Refers reference.LineOrder = OfOrders (lines_refer_to_orders t.lines t.orders)
  Refers reference.LineStock = OfStocks (lines_refer_to_stocks t.lines t.stocks)
  Refers reference.StockWarehouse = OfNumbers (stocks_refer_to_warehouses t.stocks t.warehouses)
  Refers reference.StockItem = OfNumbers (stocks_refer_to_items t.stocks t.items)

  abbrev pub Extends : Extent → List Finding → Type 0
  Extends extent.Districts = OfNumbers (ten_districts t.warehouses t.districts)
  Extends extent.Stocks = OfStocks (stock_apart t.warehouses t.items t.stocks)
  Extends extent.Customers = OfDistricts (customers_each each t.districts t.customers)
  Extends extent.Orders = OfDistricts (orders_without_gap t.orders)

  abbrev pub Fails : Condition → List Finding → Type 0
  Fails condition.First = OfNumbers (condition_1 t.warehouses t.districts)
  Fails condition.SecondOfOrders = OfDistricts (condition_2_of_orders t.districts t.orders)
  Fails condition.SecondOfNewOrders = OfDistricts (condition_2_of_new_orders t.districts t.new_orders)
  Fails condition.Third = OfDistricts (condition_3 t.new_orders)
  Fails condition.Fourth = OfDistricts (condition_4 t.orders t.lines)
  Fails condition.Fifth = OfOrders (condition_5 t.orders t.new_orders)
  Fails condition.Sixth = OfOrders (condition_6 t.orders t.lines)
  Fails condition.Seventh = OfOrders (condition_7 t.orders t.lines)
  Fails condition.Eighth = OfNumbers (condition_8 t.warehouses t.histories)
  Fails condition.Ninth = OfDistricts (condition_9 t.districts t.histories)
  Fails condition.Tenth = OfCustomers (condition_10 t.customers t.orders t.lines t.histories)
  Fails condition.Twelfth = OfCustomers (condition_12 t.customers t.orders t.lines)

  abbrev pub Moves : Movement → List Finding → Type 0
  Moves movement.StockYtd = OfStocks (stock_ytd initial t.stocks t.lines)
  Moves movement.StockOrders = OfStocks (stock_orders initial t.stocks t.lines)
  Moves movement.StockRemote = OfStocks (stock_remote initial t.stocks t.lines)
  Moves movement.PaymentCount = OfCustomers (payment_count t.customers t.histories)
  Moves movement.DeliveryCount = OfCustomers (delivery_count initial t.customers t.orders)
  Moves movement.AllLocal = OfOrders (all_local t.orders t.lines)
  Moves movement.Quantity = OfStocks (stock_quantity t.stocks)

  module _ (b n : Traced) where
    -- the list of a part of a check
    abbrev pub IsFound : Part → List Finding → Type 0
    IsFound (part.Once p) = AreOnce p
    IsFound (part.Reference p) = Refers p
    IsFound (part.Extent p) = Extends p
    IsFound (part.Condition p) = Fails p
    IsFound (part.Movement p) = Moves p
    IsFound (part.Before p) = IsCompared b n p

    -- the lists of these parts, one of each
    abbrev pub ArePartsFound : List Part → List PartFound → Type 0
    ArePartsFound = AllZip (λ part f. (f.part ≡ part) × IsFound part f.found.items)

    -- the lists of these checks, part by part
    abbrev pub AreChecksFound : List Check → List CheckFound → Type 0
    AreChecksFound = AllZip (λ check f. (f.check ≡ check) × ArePartsFound (parts_of check) f.parts.items)

    -- how many rows each table has, and the lists of these checks
    abbrev pub AreResults : List Check → Results → Type 0
    AreResults checks r = (r.rows ≡ rows_each t) × AreChecksFound checks r.checks.items
