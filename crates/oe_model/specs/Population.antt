-- The population that a database begins with, by formulas of this project's own where clause 4.3.3.1 draws values at
-- random.
-- A scale says how many warehouses, customers in each district, and items there are; each district has as many orders
-- as customers.
use Rattle.std.specs.Prelude.{◌≡◌, ℕ, zero, suc, ◌+◌, ◌-◌, ◌*◌, ◌/◌, ◌%◌, ◌≤◌, ◌==◌, nat_le, Bool, true, not, ◌&&◌}
use Rattle.std.specs.Prelude.{cond, Option, None, Some, option_map, List, [], ◌∷◌, ◌++◌, map, get_or, codes, pos, neg_ℤ}
use Rattle.std.specs.List.{range_with_len}
use Rattle.std.specs.Ordering.{eq_by_cmp}
use Rattle.oe_rows.specs.Key.{history_cmp}
use Rattle.oe_rows.specs.declared.scales.Scale.{Scale}
use Rattle.oe_rows.specs.declared.keys.WarehouseKey.{WarehouseKey}
use Rattle.oe_rows.specs.declared.keys.DistrictKey.{DistrictKey}
use Rattle.oe_rows.specs.declared.keys.CustomerKey.{CustomerKey}
use Rattle.oe_rows.specs.declared.keys.HistoryKey.{HistoryKey}
use Rattle.oe_rows.specs.declared.keys.NewOrderKey.{NewOrderKey}
use Rattle.oe_rows.specs.declared.keys.OrderKey.{OrderKey}
use Rattle.oe_rows.specs.declared.keys.OrderLineKey.{OrderLineKey}
use Rattle.oe_rows.specs.declared.keys.ItemKey.{ItemKey}
use Rattle.oe_rows.specs.declared.keys.StockKey.{StockKey}
use Rattle.oe_rows.specs.declared.keys.Key.{Key}
use Rattle.oe_rows.specs.declared.keys.Key.TheVariants as key
use Rattle.oe_rows.specs.declared.warehouses.Address.{Address}
use Rattle.oe_rows.specs.declared.warehouses.Warehouse.{Warehouse}
use Rattle.oe_rows.specs.declared.districts.District.{District}
use Rattle.oe_rows.specs.declared.customers.Credit.TheVariants.{Good, Bad}
use Rattle.oe_rows.specs.declared.customers.Customer.{Customer}
use Rattle.oe_rows.specs.declared.histories.History.{History}
use Rattle.oe_rows.specs.declared.orders.Order.{Order}
use Rattle.oe_rows.specs.declared.orders.OrderLine.{OrderLine}
use Rattle.oe_rows.specs.declared.items.Item.{Item}
use Rattle.oe_rows.specs.declared.items.Stock.{Stock}
use Rattle.oe_rows.specs.declared.rows.Row.{Row}
use Rattle.oe_rows.specs.declared.rows.Row.TheVariants as row
use Rattle.oe_model.specs.Keys.{warehouse_of_district, district_of_customer, order_of_new_order, district_of_order}
use Rattle.oe_model.specs.Keys.{order_of_line, warehouse_of_stock, item_of_stock}
use Rattle.oe_model.specs.Rows.{Rows, row_at}

-- a scale in the ranges of W_ID, C_ID and I_ID
pub record IsScale (s : Scale) : Type 0 where
  pub warehouses : (1 ≤ s.warehouses) × (s.warehouses ≤ 16)
  pub customers : (1 ≤ s.customers) × (s.customers ≤ 3_000)
  pub items : (1 ≤ s.items) × (s.items ≤ 100_000)

-- TEXTS

-- n in k decimal digits, with leading zeros
unfoldable pub dec : ℕ → ℕ → List ℕ
dec n zero = []
dec n (suc k) = dec (n / 10) k ++ (48 + n % 10) ∷ []

-- n letters of the alphabet, which begins anew after Z; the first has number i, where A has number 0
unfoldable pub letters : ℕ → ℕ → List ℕ
letters n i = map (λ j. 65 + (i + j) % 26) (range_with_len 0 n)

-- the syllables of the digits from 0 on (clause 4.3.2.3)
abbrev pub syllables : List (List ℕ)
syllables =
    codes "BAR"
    ∷ codes "OUGHT"
    ∷ codes "ABLE"
    ∷ codes "PRI"
    ∷ codes "PRES"
    ∷ codes "ESE"
    ∷ codes "ANTI"
    ∷ codes "CALLY"
    ∷ codes "ATION"
    ∷ codes "EING"
    ∷ []

unfoldable pub syllable : ℕ → List ℕ
syllable digit = get_or syllables digit []

-- the last name of a number from 0 to 999: the syllables of its three digits (clause 4.3.2.3)
abbrev pub last_name : ℕ → List ℕ
last_name n = syllable (n / 100) ++ syllable (n / 10 % 10) ++ syllable (n % 10)

-- one address for each W_ID, D_ID or C_ID
abbrev pub address_of : ℕ → Address
address_of n =
    record {
      street_1 = codes "STREET1";
      street_2 = codes "STREET2";
      city = codes "CITY";
      state = codes "ST";
      zip = dec n 4 ++ codes "11111";
    }

-- S_DIST_01 to S_DIST_10, of the stock in warehouse w of item i: d is the district
unfoldable pub dist_text : ℕ → ℕ → ℕ → List ℕ
dist_text w d i = codes "STOCK-DIST-" ++ dec w 2 ++ codes "-" ++ dec d 2 ++ codes "-" ++ dec i 7

-- the stamp of all rows: 2000-01-01T00:00:00, in seconds since 1900-01-01T00:00:00
abbrev pub start : ℕ
start = 3_155_673_600

-- ROWS

-- a warehouse that took in 100.00 for each customer of a district
abbrev pub warehouse_of : Scale → ℕ → Warehouse
warehouse_of s w = record {
  name = codes "WARE" ++ dec w 2;
  address = address_of w;
  tax = (100 * w) % 2_001;
  ytd = s.customers * 10_000;
}

-- a district that took in 10.00 for each customer
abbrev pub district_of : Scale → ℕ → District
district_of s d =
    record {
      name = codes "DIST" ++ dec d 2;
      address = address_of d;
      tax = (50 * d) % 2_001;
      ytd = s.customers * 1_000;
      next_order = s.customers + 1;
    }

-- one customer in ten has bad credit
abbrev pub has_bad_credit : ℕ → Bool
has_bad_credit c = c % 10 == 0

-- a customer who has paid 10.00 once; those with bad credit have 500 bytes of data, the others 300
abbrev pub customer_of : ℕ → Customer
customer_of c =
    record {
      name = record {
        first = codes "F" ++ dec (10_000 - c) 5;
        middle = codes "OE";
        last = last_name ((c - 1) % 1_000);
      };
      address = address_of c;
      phone = dec c 16;
      since = start;
      credit = cond (has_bad_credit c) Bad Good;
      account = record {
        credit_limit = 5_000_000;
        discount = (10 * c) % 5_001;
        balance = neg_ℤ (pos 1_000);
        ytd_payment = 1_000;
        payment_count = 1;
        delivery_count = 0;
      };
      «data» = letters (cond (has_bad_credit c) 500 300) c;
    }

-- the payment of 10.00 of a customer in its own district
abbrev pub history_of : CustomerKey → History
history_of c = record {
  customer = c;
  district = district_of_customer c;
  date = start;
  amount = 1_000;
  «data» = codes "INITIAL HISTORY";
}

-- the key of that row: terminal 0, ordinal 1, and a number that counts all customers from 1, in the order of their keys
abbrev pub history_key : Scale → CustomerKey → HistoryKey
history_key s c = record {
  terminal = 0;
  number = ((c.warehouse - 1) * 10 + (c.district - 1)) * s.customers
      + c.customer;
  ordinal = 1;
}

-- the customer that a number counts
abbrev pub counted_customer : Scale → ℕ → CustomerKey
counted_customer s n =
    record {
      warehouse = 1 + (n - 1) / s.customers / 10;
      district = 1 + (n - 1) / s.customers % 10;
      customer = 1 + (n - 1) % s.customers;
    }

-- the last order that is delivered: three in ten are not, rounded down
abbrev pub last_delivered : Scale → ℕ
last_delivered s = s.customers - (3 * s.customers) / 10

abbrev pub is_delivered : Scale → ℕ → Bool
is_delivered s o = nat_le o (last_delivered s)

-- O_OL_CNT of an order
abbrev pub lines_of : ℕ → ℕ
lines_of o = 5 + o % 11

-- the order of this number, by the customer of this number
abbrev pub order_of : Scale → ℕ → Order
order_of s o =
    record {
      customer = o;
      entry = start;
      carrier = cond (is_delivered s o) (Some (1 + o % 10)) None;
      line_count = lines_of o;
      all_local = true;
    }

-- OL_I_ID of line n of order o
abbrev pub item_of_line : Scale → ℕ → ℕ → ℕ
item_of_line s o n = 1 + (7 * o + 3 * n) % s.items

-- a line for 5 pieces from the order's own warehouse; its amount, in cents, is 0 once it is delivered (clause 4.3.3.1)
abbrev pub line_of : Scale → OrderLineKey → OrderLine
line_of s k =
    record {
      item = item_of_line s k.order k.number;
      supply = k.warehouse;
      delivery = cond (is_delivered s k.order) (Some start) None;
      quantity = 5;
      amount = cond (is_delivered s k.order) 0 (1 + (97 * k.order + 31 * k.number) % 999_999);
      dist_info = dist_text k.warehouse k.district (item_of_line s k.order k.number);
    }

-- I_PRICE is in cents; one item in ten is original
abbrev pub item_of : ℕ → Item
item_of i =
    record {
      image = 1 + i % 10_000;
      name = codes "ITEM" ++ dec i 6;
      price = 100 + (37 * i) % 9_901;
      «data» = cond (i % 10 == 0) (codes "ORIGINAL-") (codes "ITEMDATA-") ++ dec i 6;
    }

-- one stock in twenty is original
abbrev pub stock_of : ℕ → ℕ → Stock
stock_of w i =
    record {
      quantity = 10 + (13 * i + w) % 91;
      dist_info = map (λ d. dist_text w d i) (range_with_len 1 10);
      ytd = 0;
      order_count = 0;
      remote_count = 0;
      «data» = cond (i % 20 == 0) (codes "ORIGINAL-") (codes "STOCKDATA-") ++ dec i 6;
    }

-- WHICH KEYS HAVE A ROW

-- a number from 1 to this one
abbrev pub counts_to : ℕ → ℕ → Bool
counts_to most n = nat_le 1 n && nat_le n most

abbrev pub has_warehouse : Scale → WarehouseKey → Bool
has_warehouse s k = counts_to s.warehouses k.warehouse

abbrev pub has_district : Scale → DistrictKey → Bool
has_district s k = has_warehouse s (warehouse_of_district k) && counts_to 10 k.district

abbrev pub has_customer : Scale → CustomerKey → Bool
has_customer s k = has_district s (district_of_customer k) && counts_to s.customers k.customer

abbrev pub has_history : Scale → HistoryKey → Bool
has_history s k =
    has_customer s (counted_customer s k.number) && eq_by_cmp history_cmp k
    (history_key s (counted_customer s k.number))

abbrev pub has_order : Scale → OrderKey → Bool
has_order s k = has_district s (district_of_order k) && counts_to s.customers k.order

abbrev pub has_new_order : Scale → NewOrderKey → Bool
has_new_order s k = has_order s (order_of_new_order k) && not (is_delivered s k.order)

abbrev pub has_line : Scale → OrderLineKey → Bool
has_line s k = has_order s (order_of_line k) && counts_to (lines_of k.order) k.number

abbrev pub has_item : Scale → ItemKey → Bool
has_item s k = counts_to s.items k.item

abbrev pub has_stock : Scale → StockKey → Bool
has_stock s k = has_warehouse s (warehouse_of_stock k) && has_item s (item_of_stock k)

-- THE POPULATION

-- this row, where there is one
abbrev pub where_there : {X : Type 0} → Bool → X → Option X
where_there b x = cond b (Some x) None

-- the row that the formulas give a key, where they give one
abbrev pub formula : Scale → Key → Option Row
formula s (key.Warehouse k) = option_map row.Warehouse (where_there (has_warehouse s k) (warehouse_of s k.warehouse))
formula s (key.District k) = option_map row.District (where_there (has_district s k) (district_of s k.district))
formula s (key.Customer k) = option_map row.Customer (where_there (has_customer s k) (customer_of k.customer))
formula s (key.History k) = option_map row.History
    (where_there (has_history s k) (history_of (counted_customer s k.number)))
formula s (key.NewOrder k) = option_map row.NewOrder (where_there (has_new_order s k) (record {}))
formula s (key.Order k) = option_map row.Order (where_there (has_order s k) (order_of s k.order))
formula s (key.OrderLine k) = option_map row.OrderLine (where_there (has_line s k) (line_of s k))
formula s (key.Item k) = option_map row.Item (where_there (has_item s k) (item_of k.item))
formula s (key.Stock k) = option_map row.Stock (where_there (has_stock s k) (stock_of k.warehouse k.item))

-- the tables have these rows, and no others
abbrev pub IsPopulated : Scale → Rows → Type 0
IsPopulated s r = (k : Key) → row_at r k ≡ formula s k
