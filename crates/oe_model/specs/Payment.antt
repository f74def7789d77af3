-- Payment (clause 2.5): its whole effect, and its program, a stage at a time.
use Rattle.std.specs.Prelude.{ℕ, ◌+◌, pos, neg_ℤ, ◌-ℤ◌, ℤ, Bool, ◌&&◌, List, [], ◌∷◌, ◌++◌, Option, None, Some, nat_le}
use Rattle.std.specs.Prelude.{int_le, codes}
use Rattle.std.specs.FinMap.{get, insert}
use Rattle.oe_theory.specs.Machine.{Shared, Exclusive, Ask, Stop, Plain, Take, Go, Ready, Hold}
use Rattle.oe_rows.specs.Credit.{bad_credit_data}
use Rattle.oe_rows.specs.declared.keys.DistrictKey.{DistrictKey}
use Rattle.oe_rows.specs.declared.keys.HistoryKey.{HistoryKey}
use Rattle.oe_rows.specs.declared.keys.Key.TheVariants as key
use Rattle.oe_rows.specs.declared.warehouses.Warehouse.{Warehouse}
use Rattle.oe_rows.specs.declared.districts.District.{District}
use Rattle.oe_rows.specs.declared.customers.Credit.{Credit}
use Rattle.oe_rows.specs.declared.customers.Credit.TheVariants.{Good, Bad}
use Rattle.oe_rows.specs.declared.customers.Customer.{Customer}
use Rattle.oe_rows.specs.declared.histories.History.{History}
use Rattle.oe_rows.specs.declared.locks.Name.{Name}
use Rattle.oe_rows.specs.declared.locks.Name.TheVariants as name
use Rattle.oe_requests.specs.declared.requests.CustomerChoice.{CustomerChoice}
use Rattle.oe_requests.specs.declared.requests.CustomerChoice.TheVariants.{Number, LastName}
use Rattle.oe_requests.specs.declared.requests.PaymentRequest.{PaymentRequest}
use Rattle.oe_requests.specs.declared.replies.PaymentReply.{PaymentReply}
use Rattle.oe_requests.specs.declared.replies.Reply.{Reply}
use Rattle.oe_requests.specs.declared.replies.Reply.TheVariants as reply
use Rattle.oe_requests.specs.declared.refusals.Column.{Column}
use Rattle.oe_requests.specs.declared.refusals.Column.TheVariants as column
use Rattle.oe_requests.specs.declared.refusals.Refusal.{Refusal}
use Rattle.oe_requests.specs.declared.refusals.Refusal.TheVariants.{NoSuchRow, NoCustomer}
use Rattle.oe_model.specs.Keys.{warehouse_of_district, customer_in}
use Rattle.oe_model.specs.Rows.{Rows}
use Rattle.oe_model.specs.Changes.{InsertHistory, UpdateWarehouse, UpdateDistrict, UpdateCustomer}
use Rattle.oe_model.specs.Locks.{hold}
use Rattle.oe_model.specs.Positions.{PaymentPosition, PaymentWarehouse, PaymentDistrict, PaymentNames}
use Rattle.oe_model.specs.Positions.{PaymentCustomer, PaymentHistory, PaymentEnd, InPayment}
use Rattle.oe_model.specs.Effects.{◌>>=◌, first_out, in_range, Doing, with_value, within}
use Rattle.oe_model.specs.Choice.{customer_meant}

-- the rows after a payment
abbrev pub paid_warehouse : PaymentRequest → Warehouse → Warehouse
paid_warehouse q x = record x { ytd = x.ytd + q.amount }

abbrev pub paid_district : PaymentRequest → District → District
paid_district q x = record x { ytd = x.ytd + q.amount }

-- C_DATA: of a customer with bad credit the payment goes in at the left (clause 2.5.2.2)
abbrev pub paid_data : ℕ → PaymentRequest → Credit → List ℕ → List ℕ
paid_data c q Good old = old
paid_data c q Bad old = bad_credit_data old
    (record { customer = customer_in q.customer_district c; district = q.district }) q.amount

abbrev pub paid_customer : ℕ → PaymentRequest → Customer → Customer
paid_customer c q x = record x {
  account = record x.account {
    balance = x.account.balance -ℤ pos q.amount;
    ytd_payment = x.account.ytd_payment + q.amount;
    payment_count = x.account.payment_count + 1;
  };
  «data» = paid_data c q x.credit x.data;
}

-- the first column of such a row that leaves its range
abbrev pub is_money : ℕ → Bool
is_money n = nat_le n 999999999999

abbrev pub is_balance : ℤ → Bool
is_balance z = int_le (neg_ℤ (pos 999999999999)) z && int_le z (pos 999999999999)

abbrev pub is_count : ℕ → Bool
is_count n = nat_le n 9999

abbrev pub paid_warehouse_out : Warehouse → Option Column
paid_warehouse_out x = first_out ((column.WarehouseYtd, is_money x.ytd) ∷ [])

abbrev pub paid_district_out : District → Option Column
paid_district_out x = first_out ((column.DistrictYtd, is_money x.ytd) ∷ [])

abbrev pub paid_customer_out : Customer → Option Column
paid_customer_out x =
    first_out ((column.Balance, is_balance x.account.balance)
    ∷ (column.YtdPayment, is_money x.account.ytd_payment) ∷ (column.PaymentCount, is_count x.account.payment_count)
    ∷ [])

-- H_DATA: W_NAME, four spaces, D_NAME
abbrev pub history_data : List ℕ → List ℕ → List ℕ
history_data warehouse district = warehouse ++ codes "    " ++ district

abbrev pub history_row : PaymentRequest → ℕ → List ℕ → History
history_row q c info =
    record {
      customer = customer_in q.customer_district c;
      district = q.district;
      date = q.stamp;
      amount = q.amount;
      «data» = info;
    }

-- the key of the HISTORY row of transaction k of terminal t
abbrev pub history_key : ℕ → ℕ → HistoryKey
history_key t k = record { terminal = t; number = k; ordinal = 1 }

abbrev pub paid_reply : ℕ → Customer → PaymentReply
paid_reply c x = record { customer = c; last = x.name.last; credit = x.credit; balance = x.account.balance }

-- the whole effect, for transaction k of terminal t
abbrev pub payment_effect : ℕ → ℕ → PaymentRequest → Rows → Option (Rows × Reply)
payment_effect t k q r = do
  warehouse ← get r.warehouses (warehouse_of_district q.district)
  warehouse' ← in_range paid_warehouse_out (paid_warehouse q warehouse)
  district ← get r.districts q.district
  district' ← in_range paid_district_out (paid_district q district)
  c ← customer_meant q.customer_district q.customer r.customers
  customer ← get r.customers (customer_in q.customer_district c)
  customer' ← in_range paid_customer_out (paid_customer c q customer)
  Some (
    record r {
      warehouses = insert r.warehouses (warehouse_of_district q.district) warehouse';
      districts = insert r.districts q.district district';
      customers = insert r.customers (customer_in q.customer_district c) customer';
      histories = insert r.histories (history_key t k) (history_row q c (history_data warehouse.name district.name));
    },
    reply.Payment (paid_reply c customer'),
  )

-- who has a last name lies under its lock, which a payment by name holds until it ends; one by number has no such stage
abbrev pub names_lock : DistrictKey → CustomerChoice → Ask Name Refusal
names_lock h (Number c) = Stop NoCustomer
names_lock h (LastName last) = Take (name.Names h last) Shared

abbrev pub names_hold : DistrictKey → CustomerChoice → List (Hold Name)
names_hold h (Number c) = []
names_hold h (LastName last) = hold (name.Names h last) Shared ∷ []

-- a payment by name looks the customer up, and one by number has its C_ID
abbrev pub behind_district : CustomerChoice → List ℕ → List ℕ → PaymentPosition
behind_district (Number c) w d = PaymentCustomer w d c
behind_district (LastName last) w d = PaymentNames w d

-- the program: the lock of each stage
abbrev pub payment_ask : PaymentRequest → PaymentPosition → Rows → Ask Name Refusal
payment_ask q PaymentWarehouse r = Take (name.Warehouse (warehouse_of_district q.district)) Exclusive
payment_ask q (PaymentDistrict w) r = Take (name.District q.district) Exclusive
payment_ask q (PaymentNames w d) r = names_lock q.customer_district q.customer
payment_ask q (PaymentCustomer w d c) r =
    elim (get r.customers (customer_in q.customer_district c)) [
      | None ↦ Stop NoCustomer
      | Some x ↦ Take (name.Customer (customer_in q.customer_district c)) Exclusive
    ]
payment_ask q (PaymentHistory d y) r = Plain
payment_ask q (PaymentEnd y) r = Plain

-- the work of each stage
abbrev pub payment_act : ℕ → ℕ → PaymentRequest → PaymentPosition → Rows → Doing
payment_act t k q PaymentWarehouse r =
    with_value (NoSuchRow (key.Warehouse (warehouse_of_district q.district)))
    (get r.warehouses (warehouse_of_district q.district)) (λ x.
    within (paid_warehouse_out (paid_warehouse q x))
    (Go (Some (UpdateWarehouse (warehouse_of_district q.district) (paid_warehouse q x)))
    (InPayment q (PaymentDistrict x.name))))
payment_act t k q (PaymentDistrict w) r =
    with_value (NoSuchRow (key.District q.district)) (get r.districts q.district) (λ x.
    within (paid_district_out (paid_district q x))
    (Go (Some (UpdateDistrict q.district (paid_district q x))) (InPayment q (behind_district q.customer w x.name))))
payment_act t k q (PaymentNames w d) r =
    with_value NoCustomer (customer_meant q.customer_district q.customer r.customers) (λ c.
    Go None (InPayment q (PaymentCustomer w d c)))
payment_act t k q (PaymentCustomer w d c) r =
    with_value NoCustomer (get r.customers (customer_in q.customer_district c)) (λ x.
    within (paid_customer_out (paid_customer c q x))
    (Go (Some (UpdateCustomer (customer_in q.customer_district c) (paid_customer c q x)))
    (InPayment q (PaymentHistory (history_data w d) (paid_reply c (paid_customer c q x))))))
payment_act t k q (PaymentHistory d y) r = Go (Some (InsertHistory (history_key t k) (history_row q y.customer d)))
    (InPayment q (PaymentEnd y))
payment_act t k q (PaymentEnd y) r = Ready (reply.Payment y)

-- the locks that were taken before each stage, the last one first
abbrev pub payment_taken : PaymentRequest → PaymentPosition → List (Hold Name)
payment_taken q position =
    let one = hold (name.Warehouse (warehouse_of_district q.district)) Exclusive ∷ [] in
    let two = hold (name.District q.district) Exclusive ∷ one in
    let names = names_hold q.customer_district q.customer ++ two in
    let three = λ (c : ℕ). hold (name.Customer (customer_in q.customer_district c)) Exclusive ∷ names in
    elim position [
      | PaymentWarehouse ↦ []
      | PaymentDistrict w ↦ one
      | PaymentNames w d ↦ two
      | PaymentCustomer w d c ↦ names
      | PaymentHistory d y ↦ three y.customer
      | PaymentEnd y ↦ three y.customer
    ]
