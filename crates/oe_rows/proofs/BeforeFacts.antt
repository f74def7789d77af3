-- The columns that an update changed, put back on the row that it left, give the row before.
use Rattle.std.proofs.Common.{◌≡◌, ℕ, ℤ, Bool, true, false, cond, List, [], ◌∷◌, Option, None, Some, refl, sym, ap}
use Rattle.std.specs.Prelude.{nat_eq}
use Rattle.std.specs.Cmp.{unsigned_Decides, signed_Decides}
use Rattle.std.specs.Cmp.Lexicographic.{pointwise, bytes_decides}
use Rattle.std.specs.Option.{option_eq, unwrap_or}
use Rattle.std.specs.Ordering.{int_eq}
use Rattle.oe_rows.specs.declared.customers.Credit.{Credit}
use Rattle.oe_rows.specs.declared.customers.Credit.TheVariants.{Good, Bad}
use Rattle.oe_rows.specs.declared.warehouses.Address.{Address}
use Rattle.oe_rows.specs.declared.warehouses.Warehouse.{Warehouse}
use Rattle.oe_rows.specs.declared.districts.District.{District}
use Rattle.oe_rows.specs.declared.customers.CustomerName.{CustomerName}
use Rattle.oe_rows.specs.declared.customers.Account.{Account}
use Rattle.oe_rows.specs.declared.customers.Customer.{Customer}
use Rattle.oe_rows.specs.declared.orders.Order.{Order}
use Rattle.oe_rows.specs.declared.orders.OrderLine.{OrderLine}
use Rattle.oe_rows.specs.declared.items.Stock.{Stock}
use Rattle.oe_rows.specs.Before.{where_changed, text_before, number_before, texts_before, with_texts, is_credit}
use Rattle.oe_rows.specs.Before.{is_flag}
use Rattle.oe_rows.specs.Before.{address_before, with_address, warehouse_before, with_warehouse, district_before}
use Rattle.oe_rows.specs.Before.{with_district, customer_name_before, with_customer_name, account_before, with_account}
use Rattle.oe_rows.specs.Before.{customer_before, with_customer, order_before, with_order, order_line_before}
use Rattle.oe_rows.specs.Before.{with_order_line, stock_before, with_stock}

module _ {A : Type 0} (same : A → A → Bool) (exact : (x y : A) → same x y ≡ true → x ≡ y) where
  -- a column
  back : (before after : A) → unwrap_or (where_changed same before after) after ≡ before
  back before after = go (same before after) refl
    where
      go : (b : Bool) → same before after ≡ b → unwrap_or (cond b None (Some before)) after ≡ before
      go true e = sym (exact before after e)
      go false e = refl

  optional_is : (x y : Option A) → option_eq same x y ≡ true → x ≡ y
  optional_is None None e = refl
  optional_is (Some x) (Some y) e = ap Some (exact x y e)
  optional_is None (Some y) e = cc
  optional_is (Some x) None e = cc

number_is : (x y : ℕ) → nat_eq x y ≡ true → x ≡ y
number_is x y e = (unsigned_Decides x y).0 e

number_back : (x y : ℕ) → unwrap_or (number_before x y) y ≡ x
number_back = back nat_eq number_is

text_is : (s t : List ℕ) → pointwise nat_eq s t ≡ true → s ≡ t
text_is s t e = (bytes_decides s t).0 e

text_back : (s t : List ℕ) → unwrap_or (text_before s t) t ≡ s
text_back = back (pointwise nat_eq) text_is

balance_back : (x y : ℤ) → unwrap_or (where_changed int_eq x y) y ≡ x
balance_back = back int_eq (λ x y e. (signed_Decides x y).0 e)

flag_is : (x y : Bool) → is_flag x y ≡ true → x ≡ y
flag_is true true e = refl
flag_is false false e = refl
flag_is true false e = cc
flag_is false true e = cc

flag_back : (x y : Bool) → unwrap_or (where_changed is_flag x y) y ≡ x
flag_back = back is_flag flag_is

optional_back : (x y : Option ℕ) → unwrap_or (where_changed (option_eq nat_eq) x y) y ≡ x
optional_back = back (option_eq nat_eq) (optional_is nat_eq number_is)

credit_is : (x y : Credit) → is_credit x y ≡ true → x ≡ y
credit_is Good Good e = refl
credit_is Bad Bad e = refl
credit_is Good Bad e = cc
credit_is Bad Good e = cc

credit_back : (x y : Credit) → unwrap_or (where_changed is_credit x y) y ≡ x
credit_back = back is_credit credit_is

texts_back : (ss ts : List (List ℕ)) → with_texts (texts_before ss ts) ts ≡ ss
texts_back [] ts = refl
texts_back (s ∷ ss) [] = ap (λ z. s ∷ z) (texts_back ss [])
texts_back (s ∷ ss) (t ∷ ts) = go (pointwise nat_eq s t) refl (texts_back ss ts)
  where
    go : (b : Bool) → pointwise nat_eq s t ≡ b → with_texts (texts_before ss ts) ts ≡ ss
        → with_texts (cond b None (Some s) ∷ texts_before ss ts) (t ∷ ts) ≡ s ∷ ss
    go true e rest = λ i. sym (text_is s t e) i ∷ rest i
    go false e rest = ap (λ z. s ∷ z) rest

address_back : (a b : Address) → with_address (address_before a b) b ≡ a
address_back a b = λ i. record {
  street_1 = text_back a.street_1 b.street_1 i;
  street_2 = text_back a.street_2 b.street_2 i;
  city = text_back a.city b.city i;
  state = text_back a.state b.state i;
  zip = text_back a.zip b.zip i;
}

pub warehouse_back : (a b : Warehouse) → with_warehouse (warehouse_before a b) b ≡ a
warehouse_back a b = λ i. record {
  name = text_back a.name b.name i;
  address = address_back a.address b.address i;
  tax = number_back a.tax b.tax i;
  ytd = number_back a.ytd b.ytd i;
}

pub district_back : (a b : District) → with_district (district_before a b) b ≡ a
district_back a b = λ i. record {
  name = text_back a.name b.name i;
  address = address_back a.address b.address i;
  tax = number_back a.tax b.tax i;
  ytd = number_back a.ytd b.ytd i;
  next_order = number_back a.next_order b.next_order i;
}

customer_name_back : (a b : CustomerName) → with_customer_name (customer_name_before a b) b ≡ a
customer_name_back a b = λ i. record {
  first = text_back a.first b.first i;
  middle = text_back a.middle b.middle i;
  last = text_back a.last b.last i;
}

account_back : (a b : Account) → with_account (account_before a b) b ≡ a
account_back a b = λ i. record {
  credit_limit = number_back a.credit_limit b.credit_limit i;
  discount = number_back a.discount b.discount i;
  balance = balance_back a.balance b.balance i;
  ytd_payment = number_back a.ytd_payment b.ytd_payment i;
  payment_count = number_back a.payment_count b.payment_count i;
  delivery_count = number_back a.delivery_count b.delivery_count i;
}

pub customer_back : (a b : Customer) → with_customer (customer_before a b) b ≡ a
customer_back a b = λ i. record {
  name = customer_name_back a.name b.name i;
  address = address_back a.address b.address i;
  phone = text_back a.phone b.phone i;
  since = number_back a.since b.since i;
  credit = credit_back a.credit b.credit i;
  account = account_back a.account b.account i;
  «data» = text_back a.data b.data i;
}

pub order_back : (a b : Order) → with_order (order_before a b) b ≡ a
order_back a b = λ i. record {
  customer = number_back a.customer b.customer i;
  entry = number_back a.entry b.entry i;
  carrier = optional_back a.carrier b.carrier i;
  line_count = number_back a.line_count b.line_count i;
  all_local = flag_back a.all_local b.all_local i;
}

pub order_line_back : (a b : OrderLine) → with_order_line (order_line_before a b) b ≡ a
order_line_back a b = λ i. record {
  item = number_back a.item b.item i;
  supply = number_back a.supply b.supply i;
  delivery = optional_back a.delivery b.delivery i;
  quantity = number_back a.quantity b.quantity i;
  amount = number_back a.amount b.amount i;
  dist_info = text_back a.dist_info b.dist_info i;
}

pub stock_back : (a b : Stock) → with_stock (stock_before a b) b ≡ a
stock_back a b = λ i. record {
  quantity = number_back a.quantity b.quantity i;
  dist_info = texts_back a.dist_info b.dist_info i;
  ytd = number_back a.ytd b.ytd i;
  order_count = number_back a.order_count b.order_count i;
  remote_count = number_back a.remote_count b.remote_count i;
  «data» = text_back a.data b.data i;
}
