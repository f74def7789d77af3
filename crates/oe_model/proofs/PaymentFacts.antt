-- Payment's program, run alone, has the whole effect.
use Rattle.std.proofs.Common.{◌≡◌, ℕ, refl, sym, ap, subst, Option, Some, None, List, [], ◌∷◌}
use Rattle.std.specs.Prelude.{is_some, IsSome, option_map}
use Rattle.std.specs.FinMap.{get, insert}
use Rattle.oe_theory.specs.Machine.{Exclusive, Tx}
use Rattle.oe_theory.specs.Laws.{IsAsked, all_held, ends_here, goes_here}
use Rattle.oe_rows.specs.declared.keys.CustomerKey.{CustomerKey}
use Rattle.oe_rows.specs.declared.keys.Key.TheVariants as key
use Rattle.oe_rows.specs.declared.warehouses.Warehouse.{Warehouse}
use Rattle.oe_rows.specs.declared.districts.District.{District}
use Rattle.oe_rows.specs.declared.customers.Customer.{Customer}
use Rattle.oe_rows.specs.declared.locks.Name.TheVariants as name
use Rattle.oe_requests.specs.declared.requests.CustomerChoice.{CustomerChoice}
use Rattle.oe_requests.specs.declared.requests.CustomerChoice.TheVariants.{Number, LastName}
use Rattle.oe_requests.specs.declared.requests.PaymentRequest.{PaymentRequest}
use Rattle.oe_requests.specs.declared.requests.Request.{Request}
use Rattle.oe_requests.specs.declared.replies.Reply.{Reply}
use Rattle.oe_requests.specs.declared.replies.Reply.TheVariants as reply
use Rattle.oe_requests.specs.declared.refusals.Column.{Column}
use Rattle.oe_requests.specs.declared.refusals.Column.TheVariants as column
use Rattle.oe_requests.specs.declared.refusals.Refusal.TheVariants.{NoSuchRow, NoCustomer}
use Rattle.oe_rows.proofs.KeyFacts.{customer_total, exact_customer, district_total, exact_district}
use Rattle.oe_model.specs.Keys.{warehouse_of_district, customer_in}
use Rattle.oe_model.specs.Rows.{Rows}
use Rattle.oe_model.specs.Changes.{UpdateWarehouse, UpdateDistrict, UpdateCustomer, InsertHistory}
use Rattle.oe_model.specs.Positions.{Position, InPayment, PaymentWarehouse, PaymentDistrict, PaymentNames}
use Rattle.oe_model.specs.Positions.{PaymentCustomer, PaymentHistory, PaymentEnd}
use Rattle.oe_model.specs.Effects.{◌>>=◌, in_range}
use Rattle.oe_model.specs.Requests.{OfPayment, PaymentMayRefuse}
use Rattle.oe_model.specs.Choice.{customer_meant}
use Rattle.oe_model.specs.Payment.{is_money, is_balance, is_count, payment_effect, paid_warehouse, paid_district}
use Rattle.oe_model.specs.Payment.{paid_customer, paid_warehouse_out, paid_district_out, paid_customer_out, paid_reply}
use Rattle.oe_model.specs.Payment.{history_data, history_row, history_key, names_lock, behind_district}
use Rattle.oe_model.specs.System.{system}
use Rattle.oe_model.proofs.PresenceFacts.{present_own, missing}
use Rattle.oe_model.proofs.EffectFacts.{out_among}
use Rattle.oe_model.proofs.StepFacts.{EndsSo, ends_given, ends_within, ends_found}

-- the columns that a payment tests
of_warehouse : (y : Warehouse) (c : Column) → paid_warehouse_out y ≡ Some c → OfPayment c
of_warehouse y c e = out_among OfPayment ((column.WarehouseYtd, is_money y.ytd) ∷ []) (tt, tt) c e

of_district : (y : District) (c : Column) → paid_district_out y ≡ Some c → OfPayment c
of_district y c e = out_among OfPayment ((column.DistrictYtd, is_money y.ytd) ∷ []) (tt, tt) c e

of_customer : (y : Customer) (c : Column) → paid_customer_out y ≡ Some c → OfPayment c
of_customer y c e = out_among OfPayment
    ((column.Balance, is_balance y.account.balance) ∷ (column.YtdPayment, is_money y.account.ytd_payment)
    ∷ (column.PaymentCount, is_count y.account.payment_count) ∷ []) (tt, (tt, (tt, tt))) c e

-- what a payment does from the customer on
abbrev from_customer : Tx Request → PaymentRequest → Rows → List ℕ → List ℕ → ℕ → Option (Rows × Reply)
from_customer x q r w d c = do
  u ← get r.customers (customer_in q.customer_district c)
  u1 ← in_range paid_customer_out (paid_customer c q u)
  Some (
    record r {
      customers = insert r.customers (customer_in q.customer_district c) u1;
      histories = insert r.histories (history_key x.terminal x.number) (history_row q c (history_data w d));
    },
    reply.Payment (paid_reply c u1),
  )

module _ (x : Tx Request) (q : PaymentRequest) (r : Rows) (w d : List ℕ)
    (unused : get r.histories (history_key x.terminal x.number) ≡ None)
    (district_there : IsSome (get r.districts q.district)) where
  customer_ends : (c : ℕ)
      → EndsSo PaymentMayRefuse x (InPayment q (PaymentCustomer w d c)) r (from_customer x q r w d c)
  customer_ends c =
      let p : Position = InPayment q (PaymentCustomer w d c) in
      let key : CustomerKey = customer_in q.customer_district c in
      ends_found PaymentMayRefuse x p r NoCustomer NoCustomer (get r.customers key) (λ _. name.Customer key) Exclusive
      _ _ tt refl refl (λ u u_at k a.
      ends_within PaymentMayRefuse x p r k paid_customer_out (paid_customer c q u) _ _
      (of_customer (paid_customer c q u)) a (λ _ b.
      let u1 : Customer = paid_customer c q u in
      let r1 : Rows = record r { customers = insert r.customers key u1 } in
      let info : List ℕ = history_data w d in
      let p1 : Position = InPayment q (PaymentHistory info (paid_reply c u1)) in
      let p2 : Position = InPayment q (PaymentEnd (paid_reply c u1)) in
      let r2 : Rows = record r1
      { histories = insert r.histories (history_key x.terminal x.number) (history_row q c info) } in
      goes_here p r (Some (UpdateCustomer key u1)) p1 _ k b (ap is_some u_at) (
      goes_here p1 r1 (Some (InsertHistory (history_key x.terminal x.number) (history_row q c info))) p2 _ tt refl
      (unused, present_own customer_total exact_customer r.customers key u1, district_there) (
      ends_here p2 r2 (reply.Payment (paid_reply c u1)) tt refl))))

  -- by name: the customer is looked up under the name's lock
  names_ends : (last : List ℕ) → (let who : CustomerChoice = LastName last in who ≡ q.customer)
      → EndsSo PaymentMayRefuse x (InPayment q (PaymentNames w d)) r
      (customer_meant q.customer_district q.customer r.customers >>= from_customer x q r w d)
  names_ends last by_name =
      let p : Position = InPayment q (PaymentNames w d) in
      let asked : IsAsked system (all_held system) (names_lock q.customer_district q.customer) =
      subst (λ (who : CustomerChoice). IsAsked system (all_held system) (names_lock q.customer_district who)) by_name tt
      in
      ends_given PaymentMayRefuse x p r asked NoCustomer (customer_meant q.customer_district q.customer r.customers) _ _
      (λ _. tt) refl (λ c _ a.
      goes_here p r None (InPayment q (PaymentCustomer w d c)) _ asked a tt (customer_ends c))

  -- by number: the customer that is meant is the one with this number
  by_number : (c : ℕ) (o : Option Customer) → get r.customers (customer_in q.customer_district c) ≡ o
      → from_customer x q r w d c ≡ (option_map (λ _. c) o >>= from_customer x q r w d)
  by_number c None e = ap (λ v. v >>= (λ u. in_range paid_customer_out (paid_customer c q u) >>= (λ u1. Some (
    record r {
      customers = insert r.customers (customer_in q.customer_district c) u1;
      histories = insert r.histories (history_key x.terminal x.number) (history_row q c (history_data w d));
    },
    reply.Payment (paid_reply c u1),
  )))) e
  by_number c (Some u) e = refl

  behind_ends : (who : CustomerChoice) → who ≡ q.customer
      → EndsSo PaymentMayRefuse x (InPayment q (behind_district who w d)) r
      (customer_meant q.customer_district who r.customers >>= from_customer x q r w d)
  behind_ends (Number c) e = subst (λ v. EndsSo PaymentMayRefuse x (InPayment q (PaymentCustomer w d c)) r v)
      (by_number c _ refl) (customer_ends c)
  behind_ends (LastName last) e = subst (λ (who : CustomerChoice).
      EndsSo PaymentMayRefuse x (InPayment q (PaymentNames w d)) r
      (customer_meant q.customer_district who r.customers >>= from_customer x q r w d)) (sym e) (names_ends last e)

pub payment_ends : (x : Tx Request) (q : PaymentRequest) (r : Rows)
    → get r.histories (history_key x.terminal x.number) ≡ None
    → IsSome (get r.warehouses (warehouse_of_district q.district)) → IsSome (get r.districts q.district)
    → EndsSo PaymentMayRefuse x (InPayment q PaymentWarehouse) r (payment_effect x.terminal x.number q r)
payment_ends x q r unused warehouse_there district_there =
    let p0 : Position = InPayment q PaymentWarehouse in
    ends_given PaymentMayRefuse x p0 r tt (NoSuchRow (key.Warehouse (warehouse_of_district q.district)))
    (get r.warehouses (warehouse_of_district q.district)) _ _ (missing _ warehouse_there) refl (λ w w_at a.
    ends_within PaymentMayRefuse x p0 r tt paid_warehouse_out (paid_warehouse q w) _ _
    (of_warehouse (paid_warehouse q w)) a (λ _ b.
    let r1 : Rows = record r
    { warehouses = insert r.warehouses (warehouse_of_district q.district) (paid_warehouse q w) } in
    let p1 : Position = InPayment q (PaymentDistrict w.name) in
    goes_here p0 r (Some (UpdateWarehouse (warehouse_of_district q.district) (paid_warehouse q w))) p1 _ tt b
    warehouse_there (
    ends_given PaymentMayRefuse x p1 r1 tt (NoSuchRow (key.District q.district)) (get r.districts q.district) _ _
    (missing _ district_there) refl (λ d d_at a.
    ends_within PaymentMayRefuse x p1 r1 tt paid_district_out (paid_district q d) _ _ (of_district (paid_district q d))
    a (λ _ b.
    let r2 : Rows = record r1 { districts = insert r.districts q.district (paid_district q d) } in
    let p2 : Position = InPayment q (behind_district q.customer w.name d.name) in
    goes_here p1 r1 (Some (UpdateDistrict q.district (paid_district q d))) p2 _ tt b district_there (
    behind_ends x q r2 w.name d.name unused
    (present_own district_total exact_district r.districts q.district (paid_district q d)) q.customer refl))))))
