-- How long rows and undo records are: the widths of their columns, and the lengths of their texts (clause 1.3.1). It
-- speaks of the model's records and of no bytes.
use Rattle.std.specs.Prelude.{ℕ, ◌+◌, ◌*◌, List, [], ◌∷◌, length, Option, None, Some}
use Rattle.oe_rows.specs.declared.warehouses.Address.{Address}
use Rattle.oe_rows.specs.declared.warehouses.Warehouse.{Warehouse}
use Rattle.oe_rows.specs.declared.districts.District.{District}
use Rattle.oe_rows.specs.declared.customers.CustomerName.{CustomerName}
use Rattle.oe_rows.specs.declared.customers.Customer.{Customer}
use Rattle.oe_rows.specs.declared.histories.History.{History}
use Rattle.oe_rows.specs.declared.orders.Order.{Order}
use Rattle.oe_rows.specs.declared.orders.OrderLine.{OrderLine}
use Rattle.oe_rows.specs.declared.items.Item.{Item}
use Rattle.oe_rows.specs.declared.items.Stock.{Stock}
use Rattle.oe_rows.specs.declared.before.AddressBefore.{AddressBefore}
use Rattle.oe_rows.specs.declared.before.WarehouseBefore.{WarehouseBefore}
use Rattle.oe_rows.specs.declared.before.DistrictBefore.{DistrictBefore}
use Rattle.oe_rows.specs.declared.before.CustomerNameBefore.{CustomerNameBefore}
use Rattle.oe_rows.specs.declared.before.AccountBefore.{AccountBefore}
use Rattle.oe_rows.specs.declared.before.CustomerBefore.{CustomerBefore}
use Rattle.oe_rows.specs.declared.before.OrderBefore.{OrderBefore}
use Rattle.oe_rows.specs.declared.before.OrderLineBefore.{OrderLineBefore}
use Rattle.oe_rows.specs.declared.before.StockBefore.{StockBefore}
use Rattle.oe_rows.specs.declared.rows.Row.{Row}
use Rattle.oe_rows.specs.declared.rows.Row.TheVariants as row
use Rattle.oe_rows.specs.declared.keys.Key.{Key}
use Rattle.oe_rows.specs.declared.keys.Key.TheVariants as key
use Rattle.oe_model.specs.Changes.{Record, ChangedWarehouse, ChangedDistrict, ChangedCustomer, ChangedOrder}
use Rattle.oe_model.specs.Changes.{ChangedOrderLine, ChangedStock, record_key, restore}

-- a text has its length in 2 bytes before it
abbrev pub text_length : List ℕ → ℕ
text_length t = 2 + length t

-- what may be null has a mark of 1 byte before it
abbrev pub optional_length : {X : Type 0} → ℕ → Option X → ℕ
optional_length width None = 1
optional_length width (Some x) = 1 + width

abbrev pub address_length : Address → ℕ
address_length a =
    text_length a.street_1 + text_length a.street_2 + text_length a.city + text_length a.state
    + text_length a.zip

abbrev pub warehouse_length : Warehouse → ℕ
warehouse_length w = text_length w.name + address_length w.address + 2 + 8

abbrev pub district_length : District → ℕ
district_length d = text_length d.name + address_length d.address + 2 + 8 + 4

abbrev pub name_length : CustomerName → ℕ
name_length n = text_length n.first + text_length n.middle + text_length n.last

-- C_SINCE has 8 bytes, C_CREDIT 2 and its length, and the account 30
abbrev pub customer_length : Customer → ℕ
customer_length c =
    name_length c.name + address_length c.address + text_length c.phone + 8 + 4 + 30
    + text_length c.data

abbrev pub history_length : History → ℕ
history_length h = 2 + 1 + 2 + 1 + 2 + 8 + 8 + text_length h.data

abbrev pub order_length : Order → ℕ
order_length o = 2 + 8 + optional_length 1 o.carrier + 1 + 1

abbrev pub order_line_length : OrderLine → ℕ
order_line_length l = 4 + 2 + optional_length 8 l.delivery + 1 + 8 + text_length l.dist_info

abbrev pub item_length : Item → ℕ
item_length i = 4 + text_length i.name + 8 + text_length i.data

-- each of S_DIST_01 to S_DIST_10 has 24 bytes
abbrev pub stock_length : Stock → ℕ
stock_length s = 2 + 10 * (2 + 24) + 4 + 2 + 2 + text_length s.data

-- how long a row is; of NEW-ORDER the key has all columns
abbrev pub row_length : Row → ℕ
row_length (row.Warehouse r) = warehouse_length r
row_length (row.District r) = district_length r
row_length (row.Customer r) = customer_length r
row_length (row.History r) = history_length r
row_length (row.NewOrder r) = 0
row_length (row.Order r) = order_length r
row_length (row.OrderLine r) = order_line_length r
row_length (row.Item r) = item_length r
row_length (row.Stock r) = stock_length r

abbrev pub key_length : Key → ℕ
key_length (key.Warehouse k) = 2
key_length (key.District k) = 2 + 1
key_length (key.Customer k) = 2 + 1 + 2
key_length (key.History k) = 2 + 4 + 1
key_length (key.NewOrder k) = 2 + 1 + 4
key_length (key.Order k) = 2 + 1 + 4
key_length (key.OrderLine k) = 2 + 1 + 4 + 1
key_length (key.Item k) = 4
key_length (key.Stock k) = 2 + 4

abbrev pub before_length : Option Row → ℕ
before_length None = 0
before_length (Some r) = row_length r

-- a column before an update is as long as it is in a row, where the update changed it
abbrev pub column_length : {X : Type 0} → (X → ℕ) → Option X → ℕ
column_length long None = 0
column_length long (Some x) = long x

abbrev pub texts_length : List (Option (List ℕ)) → ℕ
texts_length [] = 0
texts_length (t ∷ ts) = column_length text_length t + texts_length ts

abbrev pub address_columns_length : AddressBefore → ℕ
address_columns_length a =
    column_length text_length a.street_1 + column_length text_length a.street_2 + column_length text_length a.city
    + column_length text_length a.state + column_length text_length a.zip

abbrev pub warehouse_columns_length : WarehouseBefore → ℕ
warehouse_columns_length w =
    column_length text_length w.name + address_columns_length w.address + column_length (λ _. 2) w.tax
    + column_length (λ _. 8) w.ytd

abbrev pub district_columns_length : DistrictBefore → ℕ
district_columns_length d =
    column_length text_length d.name + address_columns_length d.address + column_length (λ _. 2) d.tax
    + column_length (λ _. 8) d.ytd + column_length (λ _. 4) d.next_order

abbrev pub name_columns_length : CustomerNameBefore → ℕ
name_columns_length n = column_length text_length n.first + column_length text_length n.middle
    + column_length text_length n.last

abbrev pub account_columns_length : AccountBefore → ℕ
account_columns_length a =
    column_length (λ _. 8) a.credit_limit + column_length (λ _. 2) a.discount + column_length (λ _. 8) a.balance
    + column_length (λ _. 8) a.ytd_payment + column_length (λ _. 2) a.payment_count
    + column_length (λ _. 2) a.delivery_count

abbrev pub customer_columns_length : CustomerBefore → ℕ
customer_columns_length c =
    name_columns_length c.name + address_columns_length c.address + column_length text_length c.phone
    + column_length (λ _. 8) c.since + column_length (λ _. 4) c.credit + account_columns_length c.account
    + column_length text_length c.data

abbrev pub order_columns_length : OrderBefore → ℕ
order_columns_length o =
    column_length (λ _. 2) o.customer + column_length (λ _. 8) o.entry + column_length (optional_length 1) o.carrier
    + column_length (λ _. 1) o.line_count + column_length (λ _. 1) o.all_local

abbrev pub order_line_columns_length : OrderLineBefore → ℕ
order_line_columns_length l =
    column_length (λ _. 4) l.item + column_length (λ _. 2) l.supply + column_length (optional_length 8) l.delivery
    + column_length (λ _. 1) l.quantity + column_length (λ _. 8) l.amount + column_length text_length l.dist_info

abbrev pub stock_columns_length : StockBefore → ℕ
stock_columns_length s =
    column_length (λ _. 2) s.quantity + texts_length s.dist_info + column_length (λ _. 4) s.ytd
    + column_length (λ _. 2) s.order_count + column_length (λ _. 2) s.remote_count + column_length text_length s.data

-- a mask of so many bytes says which columns follow
abbrev pub columns_length : {C : Type 0} → ℕ → (C → ℕ) → Option C → ℕ
columns_length mask long None = 0
columns_length mask long (Some c) = mask + long c

-- what a record has of the row before; a whole row is the same whatever row stands there
abbrev pub kept_length : Record → ℕ
kept_length (ChangedWarehouse k v) = columns_length 1 warehouse_columns_length v
kept_length (ChangedDistrict k v) = columns_length 2 district_columns_length v
kept_length (ChangedCustomer k v) = columns_length 3 customer_columns_length v
kept_length (ChangedOrder k v) = columns_length 1 order_columns_length v
kept_length (ChangedOrderLine k v) = columns_length 1 order_line_columns_length v
kept_length (ChangedStock k v) = columns_length 2 stock_columns_length v
kept_length b = before_length (restore b None)

-- Of a record: its length twice in 2 bytes each, what was done to the row in 1, its table in 1, the previous record's
-- address in 4 and its moment in 8, the key, and what it has of the row before.
abbrev pub record_length : Record → ℕ
record_length b = 18 + key_length (record_key b) + kept_length b
