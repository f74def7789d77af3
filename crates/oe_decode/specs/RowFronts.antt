-- The row at the front of bytes, and those behind it: column after column, each in its range.
use Rattle.std.specs.Prelude.{◌≡◌, ◌≤◌, ℕ, List, ◌++◌, length, take, Option, Some}
use Rattle.oe_rows.specs.Row.{table_of_row}
use Rattle.oe_rows.specs.declared.warehouses.Address.{Address}
use Rattle.oe_rows.specs.declared.warehouses.Warehouse.{Warehouse}
use Rattle.oe_rows.specs.declared.districts.District.{District}
use Rattle.oe_rows.specs.declared.customers.CustomerName.{CustomerName}
use Rattle.oe_rows.specs.declared.customers.Account.{Account}
use Rattle.oe_rows.specs.declared.customers.Customer.{Customer}
use Rattle.oe_rows.specs.declared.histories.History.{History}
use Rattle.oe_rows.specs.declared.orders.Order.{Order}
use Rattle.oe_rows.specs.declared.orders.OrderLine.{OrderLine}
use Rattle.oe_rows.specs.declared.items.Item.{Item}
use Rattle.oe_rows.specs.declared.items.Stock.{Stock}
use Rattle.oe_rows.specs.declared.rows.Row.{Row}
use Rattle.oe_rows.specs.declared.rows.Row.TheVariants as row
use Rattle.oe_rows.specs.declared.keys.Key.{Key}
use Rattle.oe_rows.specs.declared.keys.Table.{Table}
use Rattle.oe_rows.specs.declared.keys.Table.TheVariants as table
use Rattle.oe_decode.specs.Fronts.{front_as, pair_at, ranged_at}
use Rattle.oe_decode.specs.KeyFronts.{IsKeyOf}
use Rattle.oe_decode.specs.ColumnFronts.{text_at, stamp_at, balance_at, carrier_at, delivery_at, flag_at, credit_at}
use Rattle.oe_decode.specs.ColumnFronts.{ten_texts_at}
use Rattle.oe_image.specs.Rows.{image_of, IsRow}

unfoldable pub address_at : List ℕ → Option (Address × List ℕ)
address_at bytes =
    front_as (λ p. record {
      street_1 = p.0;
      street_2 = p.1.0;
      city = p.1.1.0;
      state = p.1.1.1.0;
      zip = p.1.1.1.1;
    })
    (pair_at (text_at 0 20) (pair_at (text_at 0 20)
    (pair_at (text_at 0 20) (pair_at (text_at 2 2) (text_at 9 9)))) bytes)

unfoldable pub warehouse_at : List ℕ → Option (Warehouse × List ℕ)
warehouse_at bytes =
    front_as (λ p. record { name = p.0; address = p.1.0; tax = p.1.1.0; ytd = p.1.1.1 })
    (pair_at (text_at 0 10)
    (pair_at address_at (pair_at (ranged_at 2 0 9_999) (ranged_at 8 0 999_999_999_999))) bytes)

unfoldable pub district_at : List ℕ → Option (District × List ℕ)
district_at bytes =
    front_as (λ p. record {
      name = p.0;
      address = p.1.0;
      tax = p.1.1.0;
      ytd = p.1.1.1.0;
      next_order = p.1.1.1.1;
    })
    (pair_at (text_at 0 10) (pair_at address_at (pair_at (ranged_at 2 0 9_999)
    (pair_at (ranged_at 8 0 999_999_999_999) (ranged_at 4 1 10_000_000)))) bytes)

unfoldable pub customer_name_at : List ℕ → Option (CustomerName × List ℕ)
customer_name_at bytes =
    front_as (λ p. record {
      first = p.0;
      middle = p.1.0;
      last = p.1.1;
    })
    (pair_at (text_at 0 16) (pair_at (text_at 2 2) (text_at 0 16)) bytes)

unfoldable pub account_at : List ℕ → Option (Account × List ℕ)
account_at bytes =
    front_as
    (λ p. record {
      credit_limit = p.0;
      discount = p.1.0;
      balance = p.1.1.0;
      ytd_payment = p.1.1.1.0;
      payment_count = p.1.1.1.1.0;
      delivery_count = p.1.1.1.1.1;
    })
    (pair_at (ranged_at 8 0 999_999_999_999)
    (pair_at (ranged_at 2 0 9_999) (pair_at balance_at (pair_at (ranged_at 8 0 999_999_999_999)
    (pair_at (ranged_at 2 0 9_999) (ranged_at 2 0 9_999))))) bytes)

unfoldable pub customer_at : List ℕ → Option (Customer × List ℕ)
customer_at bytes =
    front_as
    (λ p. record {
      name = p.0.0;
      address = p.0.1.0;
      phone = p.0.1.1.0;
      since = p.0.1.1.1;
      credit = p.1.0;
      account = p.1.1.0;
      «data» = p.1.1.1;
    })
    (pair_at (pair_at customer_name_at (pair_at address_at (pair_at (text_at 16 16) stamp_at)))
    (pair_at credit_at (pair_at account_at (text_at 0 500))) bytes)

unfoldable pub history_at : List ℕ → Option (History × List ℕ)
history_at bytes =
    front_as
    (λ p. record {
      customer = record { warehouse = p.0.1.1.0; district = p.0.1.0; customer = p.0.0 };
      district = record { warehouse = p.1.0; district = p.0.1.1.1 };
      date = p.1.1.0;
      amount = p.1.1.1.0;
      «data» = p.1.1.1.1;
    })
    (pair_at (pair_at (ranged_at 2 1 3_000) (pair_at (ranged_at 1 1 10)
    (pair_at (ranged_at 2 1 16) (ranged_at 1 1 10))))
    (pair_at (ranged_at 2 1 16) (pair_at stamp_at (pair_at (ranged_at 8 0 999_999) (text_at 0 24)))) bytes)

unfoldable pub order_at : List ℕ → Option (Order × List ℕ)
order_at bytes =
    front_as (λ p. record {
      customer = p.0;
      entry = p.1.0;
      carrier = p.1.1.0;
      line_count = p.1.1.1.0;
      all_local = p.1.1.1.1;
    })
    (pair_at (ranged_at 2 1 3_000) (pair_at stamp_at
    (pair_at carrier_at (pair_at (ranged_at 1 5 15) flag_at))) bytes)

unfoldable pub order_line_at : List ℕ → Option (OrderLine × List ℕ)
order_line_at bytes =
    front_as (λ p. record {
      item = p.0;
      supply = p.1.0;
      delivery = p.1.1.0;
      quantity = p.1.1.1.0;
      amount = p.1.1.1.1.0;
      dist_info = p.1.1.1.1.1;
    })
    (pair_at (ranged_at 4 1 100_000) (pair_at (ranged_at 2 1 16)
    (pair_at delivery_at (pair_at (ranged_at 1 0 99)
    (pair_at (ranged_at 8 0 999_999) (text_at 24 24))))) bytes)

unfoldable pub item_at : List ℕ → Option (Item × List ℕ)
item_at bytes =
    front_as (λ p. record { image = p.0; name = p.1.0; price = p.1.1.0; «data» = p.1.1.1 })
    (pair_at (ranged_at 4 1 200_000)
    (pair_at (text_at 0 24) (pair_at (ranged_at 8 0 99_999) (text_at 0 50))) bytes)

unfoldable pub stock_at : List ℕ → Option (Stock × List ℕ)
stock_at bytes =
    front_as (λ p. record {
      quantity = p.0;
      dist_info = p.1.0;
      ytd = p.1.1.0;
      order_count = p.1.1.1.0;
      remote_count = p.1.1.1.1.0;
      «data» = p.1.1.1.1.1;
    })
    (pair_at (ranged_at 2 0 9_999)
    (pair_at ten_texts_at (pair_at (ranged_at 4 0 99_999_999) (pair_at (ranged_at 2 0 9_999)
    (pair_at (ranged_at 2 0 9_999) (text_at 0 50))))) bytes)

-- the row of a table
abbrev pub row_at : Table → List ℕ → Option (Row × List ℕ)
row_at table.Warehouse bytes = front_as (λ r. row.Warehouse r) (warehouse_at bytes)
row_at table.District bytes = front_as (λ r. row.District r) (district_at bytes)
row_at table.Customer bytes = front_as (λ r. row.Customer r) (customer_at bytes)
row_at table.History bytes = front_as (λ r. row.History r) (history_at bytes)
row_at table.NewOrder bytes = Some (row.NewOrder (record {}), bytes)
row_at table.Order bytes = front_as (λ r. row.Order r) (order_at bytes)
row_at table.OrderLine bytes = front_as (λ r. row.OrderLine r) (order_line_at bytes)
row_at table.Item bytes = front_as (λ r. row.Item r) (item_at bytes)
row_at table.Stock bytes = front_as (λ r. row.Stock r) (stock_at bytes)

-- a row of that table, in its ranges
abbrev pub IsRowOf : Table → Row → Type 0
IsRowOf t r = (table_of_row r ≡ t) × IsRow r

-- Where the front of the bytes is the image of a key and a row of that table, the result is both and the image's
-- length. Nothing else is read.
pub record ReadsImage (t : Table) (bytes : List ℕ) (result : Option (Key × Row × ℕ)) : Type 0 where
  pub found : (k : Key) (r : Row) (n : ℕ) → result ≡ Some (k, r, n)
      → IsKeyOf t k × IsRowOf t r × (n ≤ length bytes) × (take n bytes ≡ image_of k r)
  pub finds : (k : Key) (r : Row) (rest : List ℕ) → IsKeyOf t k → IsRowOf t r
      → bytes ≡ image_of k r ++ rest → result ≡ Some (k, r, length (image_of k r))
