-- The rows of dumped tables, in the order of the columns of clause 1.3.1, the key's columns first.
use Rattle.std.specs.Prelude.{ℕ, List, [], ◌∷◌, ◌++◌, decimal, codes}
use Rattle.oe_rows.specs.declared.customers.Account.{Account}
use Rattle.oe_rows.specs.declared.customers.Customer.{Customer}
use Rattle.oe_rows.specs.declared.customers.CustomerName.{CustomerName}
use Rattle.oe_rows.specs.declared.districts.District.{District}
use Rattle.oe_rows.specs.declared.histories.History.{History}
use Rattle.oe_rows.specs.declared.items.Item.{Item}
use Rattle.oe_rows.specs.declared.items.Stock.{Stock}
use Rattle.oe_rows.specs.declared.keys.Key.TheVariants as key
use Rattle.oe_rows.specs.declared.keys.WarehouseKey.{WarehouseKey}
use Rattle.oe_rows.specs.declared.keys.DistrictKey.{DistrictKey}
use Rattle.oe_rows.specs.declared.keys.CustomerKey.{CustomerKey}
use Rattle.oe_rows.specs.declared.keys.HistoryKey.{HistoryKey}
use Rattle.oe_rows.specs.declared.keys.NewOrderKey.{NewOrderKey}
use Rattle.oe_rows.specs.declared.keys.OrderKey.{OrderKey}
use Rattle.oe_rows.specs.declared.keys.OrderLineKey.{OrderLineKey}
use Rattle.oe_rows.specs.declared.keys.ItemKey.{ItemKey}
use Rattle.oe_rows.specs.declared.keys.StockKey.{StockKey}
use Rattle.oe_rows.specs.declared.orders.Order.{Order}
use Rattle.oe_rows.specs.declared.orders.OrderLine.{OrderLine}
use Rattle.oe_rows.specs.declared.warehouses.Address.{Address}
use Rattle.oe_rows.specs.declared.warehouses.Warehouse.{Warehouse}
use Rattle.oe_rows.specs.Credit.{money_text}
use Rattle.oe_texts.specs.Column.{balance_text, rate_text, credit_text, flag_text, nullable}
use Rattle.oe_texts.specs.Key.{key_texts}
use Rattle.oe_texts.specs.Stamp.{stamp_text}

-- _STREET_1, _STREET_2, _CITY, _STATE, _ZIP
abbrev pub address_columns : Address → List (List ℕ)
address_columns a = a.street_1 ∷ a.street_2 ∷ a.city ∷ a.state ∷ a.zip ∷ []

-- W_ID, W_NAME, the address, W_TAX, W_YTD
abbrev pub warehouse_columns : WarehouseKey → Warehouse → List (List ℕ)
warehouse_columns k w =
    key_texts (key.Warehouse k) ++ w.name ∷ [] ++ address_columns w.address ++ rate_text w.tax ∷ money_text w.ytd ∷ []

-- D_W_ID, D_ID, D_NAME, the address, D_TAX, D_YTD, D_NEXT_O_ID
abbrev pub district_columns : DistrictKey → District → List (List ℕ)
district_columns k d =
    key_texts (key.District k) ++ d.name ∷ [] ++ address_columns d.address
    ++ rate_text d.tax ∷ money_text d.ytd ∷ decimal d.next_order ∷ []

-- C_FIRST, C_MIDDLE, C_LAST
abbrev pub name_columns : CustomerName → List (List ℕ)
name_columns n = n.first ∷ n.middle ∷ n.last ∷ []

-- C_CREDIT_LIM, C_DISCOUNT, C_BALANCE, C_YTD_PAYMENT, C_PAYMENT_CNT, C_DELIVERY_CNT
abbrev pub account_columns : Account → List (List ℕ)
account_columns a =
    money_text a.credit_limit ∷ rate_text a.discount ∷ balance_text a.balance ∷ money_text a.ytd_payment
    ∷ decimal a.payment_count ∷ decimal a.delivery_count ∷ []

-- C_PHONE, C_SINCE, C_CREDIT
abbrev pub standing_columns : Customer → List (List ℕ)
standing_columns c = c.phone ∷ stamp_text c.since ∷ credit_text c.credit ∷ []

-- C_W_ID, C_D_ID, C_ID, the name, the address, C_PHONE, C_SINCE, C_CREDIT, the account, C_DATA
abbrev pub customer_columns : CustomerKey → Customer → List (List ℕ)
customer_columns k c =
    key_texts (key.Customer k) ++ name_columns c.name ++ address_columns c.address
    ++ standing_columns c ++ account_columns c.account ++ c.data ∷ []

-- H_C_ID, H_C_D_ID, H_C_W_ID, H_D_ID, H_W_ID
abbrev pub reference_columns : CustomerKey → DistrictKey → List (List ℕ)
reference_columns c d =
    decimal c.customer ∷ decimal c.district ∷ decimal c.warehouse ∷ decimal d.district ∷ decimal d.warehouse ∷ []

-- the terminal, the transaction's number, the row's ordinal, the customer's key, the district's, H_DATE, H_AMOUNT,
-- H_DATA
abbrev pub history_columns : HistoryKey → History → List (List ℕ)
history_columns k h =
    key_texts (key.History k) ++ reference_columns h.customer h.district
    ++ stamp_text h.date ∷ money_text h.amount ∷ h.data ∷ []

-- NO_W_ID, NO_D_ID, NO_O_ID
abbrev pub new_order_columns : NewOrderKey → List (List ℕ)
new_order_columns k = key_texts (key.NewOrder k)

-- O_W_ID, O_D_ID, O_ID, O_C_ID, O_ENTRY_D, O_CARRIER_ID, O_OL_CNT, O_ALL_LOCAL
abbrev pub order_columns : OrderKey → Order → List (List ℕ)
order_columns k o =
    key_texts (key.Order k)
    ++ decimal o.customer ∷ stamp_text o.entry ∷ nullable decimal o.carrier ∷ decimal o.line_count
    ∷ flag_text o.all_local ∷ []

-- OL_I_ID, OL_SUPPLY_W_ID, OL_DELIVERY_D
abbrev pub supply_columns : OrderLine → List (List ℕ)
supply_columns l = decimal l.item ∷ decimal l.supply ∷ nullable stamp_text l.delivery ∷ []

-- OL_W_ID, OL_D_ID, OL_O_ID, OL_NUMBER, OL_I_ID, OL_SUPPLY_W_ID, OL_DELIVERY_D, OL_QUANTITY, OL_AMOUNT, OL_DIST_INFO
abbrev pub order_line_columns : OrderLineKey → OrderLine → List (List ℕ)
order_line_columns k l =
    key_texts (key.OrderLine k) ++ supply_columns l
    ++ decimal l.quantity ∷ money_text l.amount ∷ l.dist_info ∷ []

-- I_ID, I_IM_ID, I_NAME, I_PRICE, I_DATA
abbrev pub item_columns : ItemKey → Item → List (List ℕ)
item_columns k i = key_texts (key.Item k) ++ decimal i.image ∷ i.name ∷ money_text i.price ∷ i.data ∷ []

-- S_YTD, S_ORDER_CNT, S_REMOTE_CNT
abbrev pub count_columns : Stock → List (List ℕ)
count_columns s = decimal s.ytd ∷ decimal s.order_count ∷ decimal s.remote_count ∷ []

-- S_W_ID, S_I_ID, S_QUANTITY, S_DIST_01 to S_DIST_10, S_YTD, S_ORDER_CNT, S_REMOTE_CNT, S_DATA
abbrev pub stock_columns : StockKey → Stock → List (List ℕ)
stock_columns k s =
    key_texts (key.Stock k) ++ decimal s.quantity ∷ [] ++ s.dist_info ++ (count_columns s ++ s.data ∷ [])

-- rows <count>
abbrev pub count_line : ℕ → List ℕ
count_line count = codes "rows " ++ decimal count ++ codes "\n"
