-- The columns of each table, group by group in the order of a dump: their forms, and the values
-- of a row (clause 1.3.1).
use Rattle.std.specs.Prelude.{◌≡◌, ℕ, ◌<◌, ◌≤◌, ◌==◌, List, [], ◌∷◌, ◌++◌, length, map, if◌then◌else◌}
use Rattle.std.specs.Prelude.{Option, None, Some, Result, Ok, Err}
use Rattle.oe_values.specs.declared.numbers.TheConstants.{TERMINALS}
use Rattle.oe_rows.specs.Key.{key_columns}
use Rattle.oe_rows.specs.declared.customers.Account.{Account}
use Rattle.oe_rows.specs.declared.customers.Customer.{Customer}
use Rattle.oe_rows.specs.declared.customers.CustomerName.{CustomerName}
use Rattle.oe_rows.specs.declared.districts.District.{District}
use Rattle.oe_rows.specs.declared.histories.History.{History}
use Rattle.oe_rows.specs.declared.items.Item.{Item}
use Rattle.oe_rows.specs.declared.items.Stock.{Stock}
use Rattle.oe_rows.specs.declared.keys.Key.{Key}
use Rattle.oe_rows.specs.declared.keys.Key.TheVariants as key
use Rattle.oe_rows.specs.declared.keys.WarehouseKey.{WarehouseKey}
use Rattle.oe_rows.specs.declared.keys.DistrictKey.{DistrictKey}
use Rattle.oe_rows.specs.declared.keys.CustomerKey.{CustomerKey}
use Rattle.oe_rows.specs.declared.keys.HistoryKey.{HistoryKey}
use Rattle.oe_rows.specs.declared.keys.NewOrderKey.{NewOrderKey}
use Rattle.oe_rows.specs.declared.keys.OrderKey.{OrderKey}
use Rattle.oe_rows.specs.declared.keys.OrderLineKey.{OrderLineKey}
use Rattle.oe_rows.specs.declared.keys.ItemKey.{ItemKey}
use Rattle.oe_rows.specs.declared.keys.StockKey.{StockKey}
use Rattle.oe_rows.specs.declared.orders.NewOrder.{NewOrder}
use Rattle.oe_rows.specs.declared.orders.Order.{Order}
use Rattle.oe_rows.specs.declared.orders.OrderLine.{OrderLine}
use Rattle.oe_rows.specs.declared.warehouses.Address.{Address}
use Rattle.oe_rows.specs.declared.warehouses.Warehouse.{Warehouse}
use Rattle.oe_file_rows.specs.declared.forms.Form.{Form}
use Rattle.oe_file_rows.specs.declared.forms.Form.TheVariants as form
use Rattle.oe_file_rows.specs.declared.forms.LineFault.{LineFault}
use Rattle.oe_file_rows.specs.declared.forms.LineFault.TheVariants.{NoKey}
use Rattle.oe_file_rows.specs.Line.{Left, fields_of, past, ReadsLeft}
use Rattle.oe_file_rows.specs.Value.{Value, Null, Number, Text, Money, Balance, Rate, Standing, Flag, Stamp}

-- the columns of a key
abbrev pub key_values : Key → List Value
key_values k = map (λ n. Number n) (key_columns k)

-- W_ID; of a district D_ID behind it
abbrev pub warehouse_key_forms : List Form
warehouse_key_forms = form.Number 1 16 ∷ []

abbrev pub district_key_forms : List Form
district_key_forms = form.Number 1 16 ∷ form.Number 1 10 ∷ []

-- _STREET_1, _STREET_2, _CITY, _STATE, _ZIP
abbrev pub address_forms : List Form
address_forms = form.Text 0 20 ∷ form.Text 0 20 ∷ form.Text 0 20 ∷ form.Text 2 2 ∷ form.Text 9 9 ∷ []

abbrev pub address_values : Address → List Value
address_values a = Text a.street_1 ∷ Text a.street_2 ∷ Text a.city ∷ Text a.state ∷ Text a.zip ∷ []

-- W_ID, W_NAME, the address, W_TAX, W_YTD
abbrev pub warehouse_forms : List (List Form)
warehouse_forms =
    warehouse_key_forms ∷ (form.Text 0 10 ∷ []) ∷ address_forms ∷ (form.Rate ∷ form.Money 999_999_999_999 ∷ []) ∷ []

abbrev pub warehouse_values : WarehouseKey × Warehouse → List Value
warehouse_values (k, w) =
    key_values (key.Warehouse k) ++ Text w.name ∷ [] ++ address_values w.address ++ Rate w.tax ∷ Money w.ytd ∷ []

-- D_W_ID, D_ID, D_NAME, the address, D_TAX, D_YTD, D_NEXT_O_ID
abbrev pub district_forms : List (List Form)
district_forms =
    district_key_forms ∷ (form.Text 0 10 ∷ []) ∷ address_forms
    ∷ (form.Rate ∷ form.Money 999_999_999_999 ∷ form.Number 1 10_000_000 ∷ []) ∷ []

abbrev pub district_values : DistrictKey × District → List Value
district_values (k, d) =
    key_values (key.District k) ++ Text d.name ∷ [] ++ address_values d.address
    ++ Rate d.tax ∷ Money d.ytd ∷ Number d.next_order ∷ []

-- C_W_ID, C_D_ID, C_ID
abbrev pub customer_key_forms : List Form
customer_key_forms = form.Number 1 16 ∷ form.Number 1 10 ∷ form.Number 1 3_000 ∷ []

-- C_FIRST, C_MIDDLE, C_LAST
abbrev pub name_forms : List Form
name_forms = form.Text 0 16 ∷ form.Text 2 2 ∷ form.Text 0 16 ∷ []

abbrev pub name_values : CustomerName → List Value
name_values n = Text n.first ∷ Text n.middle ∷ Text n.last ∷ []

-- C_CREDIT_LIM, C_DISCOUNT, C_BALANCE, C_YTD_PAYMENT, C_PAYMENT_CNT, C_DELIVERY_CNT
abbrev pub account_forms : List Form
account_forms =
    form.Money 999_999_999_999 ∷ form.Rate ∷ form.Balance ∷ form.Money 999_999_999_999 ∷ form.Number 0 9_999
    ∷ form.Number 0 9_999 ∷ []

abbrev pub account_values : Account → List Value
account_values a =
    Money a.credit_limit ∷ Rate a.discount ∷ Balance a.balance ∷ Money a.ytd_payment ∷ Number a.payment_count
    ∷ Number a.delivery_count ∷ []

-- C_W_ID, C_D_ID, C_ID, the name, the address, C_PHONE, C_SINCE, C_CREDIT, the account, C_DATA
abbrev pub customer_forms : List (List Form)
customer_forms =
    customer_key_forms ∷ name_forms ∷ address_forms ∷ (form.Text 16 16 ∷ form.Stamp ∷ form.Credit ∷ []) ∷ account_forms
    ∷ (form.Text 0 500 ∷ []) ∷ []

abbrev pub customer_values : CustomerKey × Customer → List Value
customer_values (k, c) =
    key_values (key.Customer k) ++ name_values c.name ++ address_values c.address
    ++ Text c.phone ∷ Stamp c.since ∷ Standing c.credit ∷ [] ++ account_values c.account ++ Text c.data ∷ []

-- the terminal, the transaction's number, the row's ordinal
abbrev pub history_key_forms : List Form
history_key_forms = form.Number 0 TERMINALS ∷ form.Number 0 4_294_967_295 ∷ form.Number 1 1 ∷ []

-- H_C_ID, H_C_D_ID, H_C_W_ID, H_D_ID, H_W_ID
abbrev pub reference_forms : List Form
reference_forms =
    form.Number 1 3_000 ∷ form.Number 1 10 ∷ form.Number 1 16 ∷ form.Number 1 10 ∷ form.Number 1 16 ∷ []

-- the columns of the standard: the customer and the district, H_DATE, H_AMOUNT, H_DATA
abbrev pub history_row_forms : List (List Form)
history_row_forms = reference_forms ∷ (form.Stamp ∷ form.Money 999_999 ∷ form.Text 0 24 ∷ []) ∷ []

abbrev pub history_row_values : History → List Value
history_row_values h =
    Number h.customer.customer ∷ Number h.customer.district ∷ Number h.customer.warehouse ∷ Number h.district.district
    ∷ Number h.district.warehouse ∷ Stamp h.date ∷ Money h.amount ∷ Text h.data ∷ []

-- the same behind our key columns
abbrev pub history_forms : List (List Form)
history_forms = history_key_forms ∷ history_row_forms

abbrev pub history_values : HistoryKey × History → List Value
history_values (k, h) = key_values (key.History k) ++ history_row_values h

-- What a HISTORY line has behind our key columns, whatever stands in them. A line of eight fields lacks them.
abbrev pub behind_key : List (List ℕ) → Left
behind_key fs =
    if length fs == 8 then record { column = 3; fields = fs }
    else past (past (past (record { column = 0; fields = fs })))

-- the key of the row that the n-th line spells
abbrev pub key_of_line : ℕ → HistoryKey
key_of_line n = record { terminal = 0; number = n; ordinal = 1 }

abbrev pub with_key : HistoryKey → Result History LineFault → Result (HistoryKey × History) LineFault
with_key k (Ok h) = Ok (k, h)
with_key k (Err e) = Err e

-- the row of the n-th line, and its key
pub record ReadsHistory (n : ℕ) (line : List ℕ) (result : Result (HistoryKey × History) LineFault) : Type 0 where
  pub read : n ≤ 4_294_967_295
      → (row : Result History LineFault)
      × ReadsLeft (behind_key (fields_of line)) history_row_forms history_row_values row
      × (result ≡ with_key (key_of_line n) row)
  pub no_key : 4_294_967_295 < n → result ≡ Err NoKey

-- _W_ID, _D_ID, _O_ID of NEW-ORDER and ORDER rows
abbrev pub order_key_forms : List Form
order_key_forms = form.Number 1 16 ∷ form.Number 1 10 ∷ form.Number 1 10_000_000 ∷ []

-- NO_W_ID, NO_D_ID, NO_O_ID
abbrev pub new_order_forms : List (List Form)
new_order_forms = order_key_forms ∷ []

abbrev pub new_order_values : NewOrderKey × NewOrder → List Value
new_order_values (k, x) = key_values (key.NewOrder k)

-- a number that may be null, and a stamp that may be
abbrev pub number_or_null : Option ℕ → Value
number_or_null None = Null
number_or_null (Some n) = Number n

abbrev pub stamp_or_null : Option ℕ → Value
stamp_or_null None = Null
stamp_or_null (Some n) = Stamp n

-- O_W_ID, O_D_ID, O_ID, O_C_ID, O_ENTRY_D, O_CARRIER_ID, O_OL_CNT, O_ALL_LOCAL
abbrev pub order_forms : List (List Form)
order_forms =
    order_key_forms ∷ (form.Number 1 3_000 ∷ form.Stamp ∷ form.NullableNumber 1 10 ∷ form.Number 5 15 ∷ form.Flag ∷ [])
    ∷ []

abbrev pub order_values : OrderKey × Order → List Value
order_values (k, o) =
    key_values (key.Order k)
    ++ Number o.customer ∷ Stamp o.entry ∷ number_or_null o.carrier ∷ Number o.line_count ∷ Flag o.all_local ∷ []

-- OL_W_ID, OL_D_ID, OL_O_ID, OL_NUMBER
abbrev pub order_line_key_forms : List Form
order_line_key_forms = form.Number 1 16 ∷ form.Number 1 10 ∷ form.Number 1 10_000_000 ∷ form.Number 1 15 ∷ []

-- OL_W_ID, OL_D_ID, OL_O_ID, OL_NUMBER, OL_I_ID, OL_SUPPLY_W_ID, OL_DELIVERY_D, OL_QUANTITY, OL_AMOUNT, OL_DIST_INFO
abbrev pub order_line_forms : List (List Form)
order_line_forms =
    order_line_key_forms
    ∷ (form.Number 1 100_000 ∷ form.Number 1 16 ∷ form.NullableStamp ∷ form.Number 0 99 ∷ form.Money 999_999
    ∷ form.Text 24 24 ∷ []) ∷ []

abbrev pub order_line_values : OrderLineKey × OrderLine → List Value
order_line_values (k, l) =
    key_values (key.OrderLine k)
    ++ Number l.item ∷ Number l.supply ∷ stamp_or_null l.delivery ∷ Number l.quantity ∷ Money l.amount
    ∷ Text l.dist_info ∷ []

-- I_ID, I_IM_ID, I_NAME, I_PRICE, I_DATA
abbrev pub item_forms : List (List Form)
item_forms =
    (form.Number 1 100_000 ∷ []) ∷ (form.Number 1 200_000 ∷ form.Text 0 24 ∷ form.Money 99_999 ∷ form.Text 0 50 ∷ [])
    ∷ []

abbrev pub item_values : ItemKey × Item → List Value
item_values (k, i) = key_values (key.Item k) ++ Number i.image ∷ Text i.name ∷ Money i.price ∷ Text i.data ∷ []

-- S_DIST_01 to S_DIST_10
abbrev pub ten_forms : List Form
ten_forms =
    form.Text 24 24 ∷ form.Text 24 24 ∷ form.Text 24 24 ∷ form.Text 24 24 ∷ form.Text 24 24 ∷ form.Text 24 24
    ∷ form.Text 24 24 ∷ form.Text 24 24 ∷ form.Text 24 24 ∷ form.Text 24 24 ∷ []

-- S_W_ID, S_I_ID, S_QUANTITY, S_DIST_01 to S_DIST_10, S_YTD, S_ORDER_CNT, S_REMOTE_CNT, S_DATA
abbrev pub stock_forms : List (List Form)
stock_forms =
    (form.Number 1 16 ∷ form.Number 1 100_000 ∷ []) ∷ (form.Number 0 9_999 ∷ []) ∷ ten_forms
    ∷ (form.Number 0 99_999_999 ∷ form.Number 0 9_999 ∷ form.Number 0 9_999 ∷ form.Text 0 50 ∷ []) ∷ []

abbrev pub stock_values : StockKey × Stock → List Value
stock_values (k, s) =
    key_values (key.Stock k) ++ Number s.quantity ∷ [] ++ map (λ t. Text t) s.dist_info
    ++ Number s.ytd ∷ Number s.order_count ∷ Number s.remote_count ∷ Text s.data ∷ []
