-- The columns that the writes of transactions change, as they stand before: of a row those of its part, and no other.
use Rattle.std.specs.Prelude.{ℕ, List, [], ◌∷◌, Option, None}
use Rattle.std.specs.Option.{option_map}
use Rattle.oe_rows.specs.Before.{account_before}
use Rattle.oe_rows.specs.declared.before.AddressBefore.{AddressBefore}
use Rattle.oe_rows.specs.declared.before.WarehouseBefore.{WarehouseBefore}
use Rattle.oe_rows.specs.declared.before.DistrictBefore.{DistrictBefore}
use Rattle.oe_rows.specs.declared.before.CustomerNameBefore.{CustomerNameBefore}
use Rattle.oe_rows.specs.declared.before.AccountBefore.{AccountBefore}
use Rattle.oe_rows.specs.declared.before.CustomerBefore.{CustomerBefore}
use Rattle.oe_rows.specs.declared.before.OrderBefore.{OrderBefore}
use Rattle.oe_rows.specs.declared.before.OrderLineBefore.{OrderLineBefore}
use Rattle.oe_rows.specs.declared.before.StockBefore.{StockBefore}
use Rattle.oe_image.specs.declared.parts.WarehousePart.{WarehousePart}
use Rattle.oe_image.specs.declared.parts.DistrictPart.{DistrictPart}
use Rattle.oe_image.specs.declared.parts.CustomerPart.{CustomerPart}
use Rattle.oe_image.specs.declared.parts.CustomerNamePart.{CustomerNamePart}
use Rattle.oe_image.specs.declared.parts.OrderPart.{OrderPart}
use Rattle.oe_image.specs.declared.parts.OrderLinePart.{OrderLinePart}
use Rattle.oe_image.specs.declared.parts.StockPart.{StockPart}

abbrev pub no_name : CustomerNameBefore
no_name = record { first = None; middle = None; last = None }

abbrev pub no_address : AddressBefore
no_address = record { street_1 = None; street_2 = None; city = None; state = None; zip = None }

-- S_DIST_01 to S_DIST_10
abbrev pub none_of_ten : List (Option (List ℕ))
none_of_ten = None ∷ None ∷ None ∷ None ∷ None ∷ None ∷ None ∷ None ∷ None ∷ None ∷ []

abbrev pub warehouse_part : WarehousePart → WarehouseBefore
warehouse_part w = record { name = None; address = no_address; tax = None; ytd = w.ytd }

abbrev pub district_part : DistrictPart → DistrictBefore
district_part d =
    record { name = None; address = no_address; tax = None; ytd = d.ytd; next_order = d.next_order }

-- of a customer these of the account, and C_DATA
abbrev pub columns_of : AccountBefore → Option (List ℕ) → CustomerBefore
columns_of account text = record {
  name = no_name;
  address = no_address;
  phone = None;
  since = None;
  credit = None;
  account = account;
  «data» = text;
}

abbrev pub customer_part : CustomerPart → CustomerBefore
customer_part c = columns_of (account_before c.before.now c.after.now) (option_map (λ t. t.now) c.data)

abbrev pub no_account : AccountBefore
no_account = record {
  credit_limit = None;
  discount = None;
  balance = None;
  ytd_payment = None;
  payment_count = None;
  delivery_count = None;
}

-- of a customer C_FIRST and C_LAST
abbrev pub customer_name_part : CustomerNamePart → CustomerBefore
customer_name_part n = record {
  name = record {
    first = option_map (λ t. t.now) n.first;
    middle = None;
    last = option_map (λ t. t.now) n.last;
  };
  address = no_address;
  phone = None;
  since = None;
  credit = None;
  account = no_account;
  «data» = None;
}

abbrev pub order_part : OrderPart → OrderBefore
order_part o =
    record { customer = None; entry = None; carrier = o.carrier; line_count = None; all_local = None }

abbrev pub order_line_part : OrderLinePart → OrderLineBefore
order_line_part l = record {
  item = None;
  supply = None;
  delivery = l.delivery;
  quantity = None;
  amount = None;
  dist_info = None;
}

abbrev pub stock_part : StockPart → StockBefore
stock_part s = record {
  quantity = s.quantity;
  dist_info = none_of_ten;
  ytd = s.ytd;
  order_count = s.order_count;
  remote_count = s.remote_count;
  «data» = None;
}
