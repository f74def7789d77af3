-- The columns of a row that an update changed, as they stood before it: a column is there exactly where the update gave
-- it another value.
use Rattle.std.specs.Prelude.{ℕ, Bool, true, false, not, cond, List, [], ◌∷◌, drop, Option, None, Some, nat_eq}
use Rattle.std.specs.Option.{option_eq, unwrap_or}
use Rattle.std.specs.Ordering.{int_eq}
use Rattle.std.specs.Cmp.Lexicographic.{pointwise}
use Rattle.oe_rows.specs.declared.customers.Credit.{Credit}
use Rattle.oe_rows.specs.declared.customers.Credit.TheVariants.{Good, Bad}
use Rattle.oe_rows.specs.declared.warehouses.Address.{Address}
use Rattle.oe_rows.specs.declared.warehouses.Warehouse.{Warehouse}
use Rattle.oe_rows.specs.declared.districts.District.{District}
use Rattle.oe_rows.specs.declared.customers.CustomerName.{CustomerName}
use Rattle.oe_rows.specs.declared.customers.Account.{Account}
use Rattle.oe_rows.specs.declared.customers.Customer.{Customer}
use Rattle.oe_rows.specs.declared.orders.Order.{Order}
use Rattle.oe_rows.specs.declared.orders.OrderLine.{OrderLine}
use Rattle.oe_rows.specs.declared.items.Stock.{Stock}
use Rattle.oe_rows.specs.declared.before.AddressBefore.{AddressBefore}
use Rattle.oe_rows.specs.declared.before.WarehouseBefore.{WarehouseBefore}
use Rattle.oe_rows.specs.declared.before.DistrictBefore.{DistrictBefore}
use Rattle.oe_rows.specs.declared.before.CustomerNameBefore.{CustomerNameBefore}
use Rattle.oe_rows.specs.declared.before.AccountBefore.{AccountBefore}
use Rattle.oe_rows.specs.declared.before.CustomerBefore.{CustomerBefore}
use Rattle.oe_rows.specs.declared.before.OrderBefore.{OrderBefore}
use Rattle.oe_rows.specs.declared.before.OrderLineBefore.{OrderLineBefore}
use Rattle.oe_rows.specs.declared.before.StockBefore.{StockBefore}

-- a column's value before, where it has another one after
abbrev pub where_changed : {A : Type 0} → (A → A → Bool) → A → A → Option A
where_changed same before after = cond (same before after) None (Some before)

abbrev pub text_before : List ℕ → List ℕ → Option (List ℕ)
text_before = where_changed (pointwise nat_eq)

abbrev pub number_before : ℕ → ℕ → Option ℕ
number_before = where_changed nat_eq

-- of the texts of a list, one by one
abbrev pub texts_before : List (List ℕ) → List (List ℕ) → List (Option (List ℕ))
texts_before [] after = []
texts_before (t ∷ ts) [] = Some t ∷ texts_before ts []
texts_before (t ∷ ts) (u ∷ us) = text_before t u ∷ texts_before ts us

-- the texts with those put back that are there
abbrev pub with_texts : List (Option (List ℕ)) → List (List ℕ) → List (List ℕ)
with_texts [] after = []
with_texts (Some t ∷ ts) after = t ∷ with_texts ts (drop 1 after)
with_texts (None ∷ ts) [] = []
with_texts (None ∷ ts) (u ∷ us) = u ∷ with_texts ts us

abbrev pub is_credit : Credit → Credit → Bool
is_credit Good Good = true
is_credit Bad Bad = true
is_credit _ _ = false

abbrev pub is_flag : Bool → Bool → Bool
is_flag true b = b
is_flag false b = not b

abbrev pub address_before : Address → Address → AddressBefore
address_before a b = record {
  street_1 = text_before a.street_1 b.street_1;
  street_2 = text_before a.street_2 b.street_2;
  city = text_before a.city b.city;
  state = text_before a.state b.state;
  zip = text_before a.zip b.zip;
}

abbrev pub with_address : AddressBefore → Address → Address
with_address c a = record {
  street_1 = unwrap_or c.street_1 a.street_1;
  street_2 = unwrap_or c.street_2 a.street_2;
  city = unwrap_or c.city a.city;
  state = unwrap_or c.state a.state;
  zip = unwrap_or c.zip a.zip;
}

-- the columns of a WAREHOUSE row but its key (clause 1.3.1)
abbrev pub warehouse_before : Warehouse → Warehouse → WarehouseBefore
warehouse_before a b = record {
  name = text_before a.name b.name;
  address = address_before a.address b.address;
  tax = number_before a.tax b.tax;
  ytd = number_before a.ytd b.ytd;
}

abbrev pub with_warehouse : WarehouseBefore → Warehouse → Warehouse
with_warehouse c w = record {
  name = unwrap_or c.name w.name;
  address = with_address c.address w.address;
  tax = unwrap_or c.tax w.tax;
  ytd = unwrap_or c.ytd w.ytd;
}

abbrev pub district_before : District → District → DistrictBefore
district_before a b = record {
  name = text_before a.name b.name;
  address = address_before a.address b.address;
  tax = number_before a.tax b.tax;
  ytd = number_before a.ytd b.ytd;
  next_order = number_before a.next_order b.next_order;
}

abbrev pub with_district : DistrictBefore → District → District
with_district c d = record {
  name = unwrap_or c.name d.name;
  address = with_address c.address d.address;
  tax = unwrap_or c.tax d.tax;
  ytd = unwrap_or c.ytd d.ytd;
  next_order = unwrap_or c.next_order d.next_order;
}

abbrev pub customer_name_before : CustomerName → CustomerName → CustomerNameBefore
customer_name_before a b = record {
  first = text_before a.first b.first;
  middle = text_before a.middle b.middle;
  last = text_before a.last b.last;
}

abbrev pub with_customer_name : CustomerNameBefore → CustomerName → CustomerName
with_customer_name c n = record {
  first = unwrap_or c.first n.first;
  middle = unwrap_or c.middle n.middle;
  last = unwrap_or c.last n.last;
}

abbrev pub account_before : Account → Account → AccountBefore
account_before a b = record {
  credit_limit = number_before a.credit_limit b.credit_limit;
  discount = number_before a.discount b.discount;
  balance = where_changed int_eq a.balance b.balance;
  ytd_payment = number_before a.ytd_payment b.ytd_payment;
  payment_count = number_before a.payment_count b.payment_count;
  delivery_count = number_before a.delivery_count b.delivery_count;
}

abbrev pub with_account : AccountBefore → Account → Account
with_account c a = record {
  credit_limit = unwrap_or c.credit_limit a.credit_limit;
  discount = unwrap_or c.discount a.discount;
  balance = unwrap_or c.balance a.balance;
  ytd_payment = unwrap_or c.ytd_payment a.ytd_payment;
  payment_count = unwrap_or c.payment_count a.payment_count;
  delivery_count = unwrap_or c.delivery_count a.delivery_count;
}

abbrev pub customer_before : Customer → Customer → CustomerBefore
customer_before a b = record {
  name = customer_name_before a.name b.name;
  address = address_before a.address b.address;
  phone = text_before a.phone b.phone;
  since = number_before a.since b.since;
  credit = where_changed is_credit a.credit b.credit;
  account = account_before a.account b.account;
  «data» = text_before a.data b.data;
}

abbrev pub with_customer : CustomerBefore → Customer → Customer
with_customer c x = record {
  name = with_customer_name c.name x.name;
  address = with_address c.address x.address;
  phone = unwrap_or c.phone x.phone;
  since = unwrap_or c.since x.since;
  credit = unwrap_or c.credit x.credit;
  account = with_account c.account x.account;
  «data» = unwrap_or c.data x.data;
}

abbrev pub order_before : Order → Order → OrderBefore
order_before a b = record {
  customer = number_before a.customer b.customer;
  entry = number_before a.entry b.entry;
  carrier = where_changed (option_eq nat_eq) a.carrier b.carrier;
  line_count = number_before a.line_count b.line_count;
  all_local = where_changed is_flag a.all_local b.all_local;
}

abbrev pub with_order : OrderBefore → Order → Order
with_order c o = record {
  customer = unwrap_or c.customer o.customer;
  entry = unwrap_or c.entry o.entry;
  carrier = unwrap_or c.carrier o.carrier;
  line_count = unwrap_or c.line_count o.line_count;
  all_local = unwrap_or c.all_local o.all_local;
}

abbrev pub order_line_before : OrderLine → OrderLine → OrderLineBefore
order_line_before a b = record {
  item = number_before a.item b.item;
  supply = number_before a.supply b.supply;
  delivery = where_changed (option_eq nat_eq) a.delivery b.delivery;
  quantity = number_before a.quantity b.quantity;
  amount = number_before a.amount b.amount;
  dist_info = text_before a.dist_info b.dist_info;
}

abbrev pub with_order_line : OrderLineBefore → OrderLine → OrderLine
with_order_line c l = record {
  item = unwrap_or c.item l.item;
  supply = unwrap_or c.supply l.supply;
  delivery = unwrap_or c.delivery l.delivery;
  quantity = unwrap_or c.quantity l.quantity;
  amount = unwrap_or c.amount l.amount;
  dist_info = unwrap_or c.dist_info l.dist_info;
}

-- S_DIST_01 to S_DIST_10 one by one
abbrev pub stock_before : Stock → Stock → StockBefore
stock_before a b = record {
  quantity = number_before a.quantity b.quantity;
  dist_info = texts_before a.dist_info b.dist_info;
  ytd = number_before a.ytd b.ytd;
  order_count = number_before a.order_count b.order_count;
  remote_count = number_before a.remote_count b.remote_count;
  «data» = text_before a.data b.data;
}

abbrev pub with_stock : StockBefore → Stock → Stock
with_stock c s = record {
  quantity = unwrap_or c.quantity s.quantity;
  dist_info = with_texts c.dist_info s.dist_info;
  ytd = unwrap_or c.ytd s.ytd;
  order_count = unwrap_or c.order_count s.order_count;
  remote_count = unwrap_or c.remote_count s.remote_count;
  «data» = unwrap_or c.data s.data;
}
