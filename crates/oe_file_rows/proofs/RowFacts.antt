-- A row is known by the values of its columns.
use Rattle.std.proofs.Common.{◌≡◌, ℕ, zero, suc, List, [], ◌∷◌, ◌++◌, map, Bool, true, Option, Some, None, sym, ap}
use Rattle.std.proofs.Common.{◌∙◌, refl}
use Rattle.std.specs.Prelude.{ℤ, pos}
use Rattle.oe_rows.specs.declared.customers.Credit.{Credit}
use Rattle.oe_rows.specs.declared.customers.Credit.TheVariants.{Good}
use Rattle.oe_rows.specs.declared.customers.Customer.{Customer}
use Rattle.oe_rows.specs.declared.districts.District.{District}
use Rattle.oe_rows.specs.declared.histories.History.{History}
use Rattle.oe_rows.specs.declared.items.Item.{Item}
use Rattle.oe_rows.specs.declared.items.Stock.{Stock}
use Rattle.oe_rows.specs.declared.keys.WarehouseKey.{WarehouseKey}
use Rattle.oe_rows.specs.declared.keys.DistrictKey.{DistrictKey}
use Rattle.oe_rows.specs.declared.keys.CustomerKey.{CustomerKey}
use Rattle.oe_rows.specs.declared.keys.HistoryKey.{HistoryKey}
use Rattle.oe_rows.specs.declared.keys.NewOrderKey.{NewOrderKey}
use Rattle.oe_rows.specs.declared.keys.OrderKey.{OrderKey}
use Rattle.oe_rows.specs.declared.keys.OrderLineKey.{OrderLineKey}
use Rattle.oe_rows.specs.declared.keys.ItemKey.{ItemKey}
use Rattle.oe_rows.specs.declared.keys.StockKey.{StockKey}
use Rattle.oe_rows.specs.declared.orders.NewOrder.{NewOrder}
use Rattle.oe_rows.specs.declared.orders.Order.{Order}
use Rattle.oe_rows.specs.declared.orders.OrderLine.{OrderLine}
use Rattle.oe_rows.specs.declared.warehouses.Address.{Address}
use Rattle.oe_rows.specs.declared.warehouses.Warehouse.{Warehouse}
use Rattle.oe_file_rows.specs.Value.{Value, Null, Number, Text, Money, Balance, Rate, Standing, Flag, Stamp}
use Rattle.oe_file_rows.specs.Rows.{warehouse_values, district_values, customer_values, history_row_values}
use Rattle.oe_file_rows.specs.Rows.{history_values}
use Rattle.oe_file_rows.specs.Rows.{new_order_values, order_values}
use Rattle.oe_file_rows.specs.Rows.{order_line_values, item_values, stock_values}

-- the value at a place
abbrev at : ℕ → List Value → Value
at n [] = Null
at zero (v ∷ vs) = v
at (suc n) (v ∷ vs) = at n vs

-- what is in a value
abbrev number_in : Value → ℕ
number_in (Number n) = n
number_in (Money n) = n
number_in (Rate n) = n
number_in (Stamp n) = n
number_in _ = 0

abbrev text_in : Value → List ℕ
text_in (Text t) = t
text_in _ = []

abbrev balance_in : Value → ℤ
balance_in (Balance z) = z
balance_in _ = pos 0

abbrev credit_in : Value → Credit
credit_in (Standing c) = c
credit_in _ = Good

abbrev flag_in : Value → Bool
flag_in (Flag b) = b
flag_in _ = true

abbrev nullable_in : Value → Option ℕ
nullable_in (Number n) = Some n
nullable_in (Stamp n) = Some n
nullable_in _ = None

-- an address whose first column has that place
abbrev address_at : ℕ → List Value → Address
address_at n vs = record {
  street_1 = text_in (at n vs);
  street_2 = text_in (at (suc n) vs);
  city = text_in (at (suc (suc n)) vs);
  state = text_in (at (suc (suc (suc n))) vs);
  zip = text_in (at (suc (suc (suc (suc n)))) vs);
}

abbrev warehouse_in : List Value → WarehouseKey × Warehouse
warehouse_in vs = (
  record { warehouse = number_in (at 0 vs) },
  record {
    name = text_in (at 1 vs);
    address = address_at 2 vs;
    tax = number_in (at 7 vs);
    ytd = number_in (at 8 vs);
  },
)

pub warehouses_same : (a b : WarehouseKey × Warehouse) → warehouse_values a ≡ warehouse_values b → a ≡ b
warehouses_same a b e = ap warehouse_in e

abbrev district_in : List Value → DistrictKey × District
district_in vs = (
  record { warehouse = number_in (at 0 vs); district = number_in (at 1 vs) },
  record {
    name = text_in (at 2 vs);
    address = address_at 3 vs;
    tax = number_in (at 8 vs);
    ytd = number_in (at 9 vs);
    next_order = number_in (at 10 vs);
  },
)

pub districts_same : (a b : DistrictKey × District) → district_values a ≡ district_values b → a ≡ b
districts_same a b e = ap district_in e

abbrev customer_in : List Value → CustomerKey × Customer
customer_in vs = (
  record { warehouse = number_in (at 0 vs); district = number_in (at 1 vs); customer = number_in (at 2 vs) },
  record {
    name = record { first = text_in (at 3 vs); middle = text_in (at 4 vs); last = text_in (at 5 vs) };
    address = address_at 6 vs;
    phone = text_in (at 11 vs);
    since = number_in (at 12 vs);
    credit = credit_in (at 13 vs);
    account = record {
      credit_limit = number_in (at 14 vs);
      discount = number_in (at 15 vs);
      balance = balance_in (at 16 vs);
      ytd_payment = number_in (at 17 vs);
      payment_count = number_in (at 18 vs);
      delivery_count = number_in (at 19 vs);
    };
    «data» = text_in (at 20 vs);
  },
)

pub customers_same : (a b : CustomerKey × Customer) → customer_values a ≡ customer_values b → a ≡ b
customers_same a b e = ap customer_in e

abbrev references_in : ℕ → List Value → History
references_in n vs = record {
  customer = record {
    warehouse = number_in (at (suc (suc n)) vs);
    district = number_in (at (suc n) vs);
    customer =
        number_in (at n vs);
  };
  district = record {
    warehouse = number_in (at (suc (suc (suc (suc n)))) vs);
    district = number_in
        (at (suc (suc (suc n))) vs);
  };
  date = number_in (at (suc (suc (suc (suc (suc n))))) vs);
  amount = number_in (at (suc (suc (suc (suc (suc (suc n)))))) vs);
  «data» = text_in (at (suc (suc (suc (suc (suc (suc (suc n))))))) vs);
}

pub history_rows_same : (a b : History) → history_row_values a ≡ history_row_values b → a ≡ b
history_rows_same a b e = ap (references_in 0) e

abbrev history_in : List Value → HistoryKey × History
history_in vs = (
  record { terminal = number_in (at 0 vs); number = number_in (at 1 vs); ordinal = number_in (at 2 vs) },
  references_in 3 vs,
)

pub histories_same : (a b : HistoryKey × History) → history_values a ≡ history_values b → a ≡ b
histories_same a b e = ap history_in e

abbrev new_order_in : List Value → NewOrderKey × NewOrder
new_order_in vs = (
  record { warehouse = number_in (at 0 vs); district = number_in (at 1 vs); order = number_in (at 2 vs) },
  record {},
)

pub new_orders_same : (a b : NewOrderKey × NewOrder) → new_order_values a ≡ new_order_values b → a ≡ b
new_orders_same a b e = ap new_order_in e

abbrev order_in : List Value → OrderKey × Order
order_in vs = (
  record { warehouse = number_in (at 0 vs); district = number_in (at 1 vs); order = number_in (at 2 vs) },
  record {
    customer = number_in (at 3 vs);
    entry = number_in (at 4 vs);
    carrier = nullable_in (at 5 vs);
    line_count = number_in (at 6 vs);
    all_local = flag_in (at 7 vs);
  },
)

order_back : (k : OrderKey) (o : Order) → order_in (order_values (k, o)) ≡ (k, o)
order_back k o = carried (o.carrier)
  where
    carried : (c : Option ℕ) → order_in (order_values (k, record o { carrier = c })) ≡ (k, record o { carrier = c })
    carried None = refl
    carried (Some n) = refl

pub orders_same : (a b : OrderKey × Order) → order_values a ≡ order_values b → a ≡ b
orders_same a b e = sym (order_back a.0 a.1) ∙ ap order_in e ∙ order_back b.0 b.1

abbrev order_line_in : List Value → OrderLineKey × OrderLine
order_line_in vs = (
  record {
    warehouse = number_in (at 0 vs);
    district = number_in (at 1 vs);
    order = number_in (at 2 vs);
    number = number_in (at 3 vs);
  },
  record {
    item = number_in (at 4 vs);
    supply = number_in (at 5 vs);
    delivery = nullable_in (at 6 vs);
    quantity = number_in (at 7 vs);
    amount = number_in (at 8 vs);
    dist_info = text_in (at 9 vs);
  },
)

order_line_back : (k : OrderLineKey) (l : OrderLine) → order_line_in (order_line_values (k, l)) ≡ (k, l)
order_line_back k l = delivered (l.delivery)
  where
    delivered : (d : Option ℕ)
        → order_line_in (order_line_values (k, record l { delivery = d })) ≡ (k, record l { delivery = d })
    delivered None = refl
    delivered (Some n) = refl

pub order_lines_same : (a b : OrderLineKey × OrderLine) → order_line_values a ≡ order_line_values b → a ≡ b
order_lines_same a b e = sym (order_line_back a.0 a.1) ∙ ap order_line_in e ∙ order_line_back b.0 b.1

abbrev item_in : List Value → ItemKey × Item
item_in vs = (
  record { item = number_in (at 0 vs) },
  record {
    image = number_in (at 1 vs);
    name = text_in (at 2 vs);
    price = number_in (at 3 vs);
    «data» = text_in (at 4 vs);
  },
)

pub items_same : (a b : ItemKey × Item) → item_values a ≡ item_values b → a ≡ b
items_same a b e = ap item_in e

-- the texts at the front of values, and the values behind them
abbrev texts : List Value → List (List ℕ)
texts (Text t ∷ vs) = t ∷ texts vs
texts _ = []

abbrev past_texts : List Value → List Value
past_texts (Text t ∷ vs) = past_texts vs
past_texts vs = vs

texts_back : (ts : List (List ℕ)) (n : ℕ) (vs : List Value)
    → texts (map (λ t. Text t) ts ++ Number n ∷ vs) ≡ ts
texts_back [] n vs = refl
texts_back (t ∷ ts) n vs = ap (λ ts. t ∷ ts) (texts_back ts n vs)

behind_texts : (ts : List (List ℕ)) (n : ℕ) (vs : List Value)
    → past_texts (map (λ t. Text t) ts ++ Number n ∷ vs) ≡ Number n ∷ vs
behind_texts [] n vs = refl
behind_texts (t ∷ ts) n vs = behind_texts ts n vs

abbrev past : ℕ → List Value → List Value
past zero vs = vs
past (suc n) [] = []
past (suc n) (v ∷ vs) = past n vs

abbrev stock_of : List Value → List (List ℕ) → List Value → StockKey × Stock
stock_of vs ts ws = (
  record { warehouse = number_in (at 0 vs); item = number_in (at 1 vs) },
  record {
    quantity = number_in (at 2 vs);
    dist_info = ts;
    ytd = number_in (at 0 ws);
    order_count = number_in (at 1 ws);
    remote_count = number_in (at 2 ws);
    «data» = text_in (at 3 ws);
  },
)

abbrev stock_in : List Value → StockKey × Stock
stock_in vs = stock_of vs (texts (past 3 vs)) (past_texts (past 3 vs))

stock_back : (k : StockKey) (s : Stock) → stock_in (stock_values (k, s)) ≡ (k, s)
stock_back k s =
    let behind = Number s.order_count ∷ Number s.remote_count ∷ Text s.data ∷ [] in
    let all = stock_values (k, s) in
    ap (λ ts. stock_of all ts (past_texts (past 3 all))) (texts_back s.dist_info s.ytd behind)
    ∙ ap (λ ws. stock_of all s.dist_info ws) (behind_texts s.dist_info s.ytd behind)

pub stocks_same : (a b : StockKey × Stock) → stock_values a ≡ stock_values b → a ≡ b
stocks_same a b e = sym (stock_back a.0 a.1) ∙ ap stock_in e ∙ stock_back b.0 b.1
