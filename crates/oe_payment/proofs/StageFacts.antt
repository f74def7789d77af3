-- What the stages of a payment ask for and do, of the rows as they are.
use Rattle.std.proofs.Common.{◌≡◌, ℕ, refl, sym, ap, ◌∙◌, suc, List, Option, None, Some, Result, Ok, Err}
use Rattle.std.specs.Prelude.{option_map}
use Rattle.std.specs.FinMap.{get}
use Rattle.oe_theory.specs.Machine.{Ask, Stop, Take, Fail, Go, Shared, Exclusive}
use Rattle.oe_rows.specs.declared.keys.Key.TheVariants as key
use Rattle.oe_rows.specs.declared.locks.Name.{Name}
use Rattle.oe_rows.specs.declared.locks.Name.TheVariants as name
use Rattle.oe_rows.specs.Credit.{credit_entry, with_entry}
use Rattle.oe_rows.specs.declared.warehouses.Warehouse.{Warehouse}
use Rattle.oe_rows.specs.declared.districts.District.{District}
use Rattle.oe_rows.specs.declared.customers.Account.{Account}
use Rattle.oe_rows.specs.declared.customers.Credit.TheVariants.{Good, Bad}
use Rattle.oe_rows.specs.declared.customers.Customer.{Customer}
use Rattle.oe_rows.specs.declared.histories.History.{History}
use Rattle.oe_requests.specs.declared.requests.CustomerChoice.{CustomerChoice}
use Rattle.oe_requests.specs.declared.requests.CustomerChoice.TheVariants.{Number, LastName}
use Rattle.oe_requests.specs.declared.requests.PaymentRequest.{PaymentRequest}
use Rattle.oe_requests.specs.declared.requests.Request.TheVariants as request
use Rattle.oe_requests.specs.declared.replies.PaymentReply.{PaymentReply}
use Rattle.oe_requests.specs.declared.refusals.Column.{Column}
use Rattle.oe_requests.specs.declared.refusals.Refusal.{Refusal}
use Rattle.oe_requests.specs.declared.refusals.Refusal.TheVariants.{NoSuchRow, NoCustomer, Overflow}
use Rattle.oe_model.specs.Keys.{warehouse_of_district, customer_in}
use Rattle.oe_model.specs.Changes.{InsertHistory, UpdateWarehouse, UpdateDistrict, UpdateCustomer}
use Rattle.oe_model.specs.Choice.{customer_meant, middle, namesakes}
use Rattle.oe_model.specs.Effects.{Doing, with_value, within}
use Rattle.oe_model.specs.Positions.{PaymentWarehouse, PaymentDistrict, PaymentNames, PaymentCustomer, PaymentHistory}
use Rattle.oe_model.specs.Positions.{PaymentEnd, InPayment}
use Rattle.oe_model.specs.Payment.{paid_warehouse, paid_warehouse_out, paid_district, paid_district_out, paid_customer}
use Rattle.oe_model.specs.Payment.{paid_customer_out, history_data, history_row, history_key, paid_reply, names_lock}
use Rattle.oe_model.specs.Payment.{behind_district}
use Rattle.oe_change.specs.declared.writes.Write.TheVariants as write
use Rattle.oe_formulas.specs.Checks.{row_in_ranges, paid_with}
use Rattle.oe_engine.specs.View.{EngineState, view_of, Handle}
use Rattle.oe_engine.specs.Programs.{ask_here, act_here}
use Rattle.oe_payment.specs.Stages.{IsStage}

-- a row whose columns are in their ranges goes on with the stage after it, and another fails
module _ {A : Type 0} (out : A → Option Column) (x : A) (d : A → Doing) where
  goes_within : (after : A) → ◌≡◌ {A = Result A Column} (Ok after) (row_in_ranges out x) → within (out x) (d x)
      ≡ d after
  goes_within after e = go (out x) e
    where
      go : (o : Option Column) → ◌≡◌ {A = Result A Column} (Ok after) (elim o [ None ↦ Ok x | Some c ↦ Err c ])
          → within o (d x) ≡ d after
      go None e = let same : after ≡ x = cc in ap d (sym same)
      go (Some c) e = let no : ⊥ = cc in absurd no

  fails_within : (c : Column) → ◌≡◌ {A = Result A Column} (Err c) (row_in_ranges out x)
      → within (out x) (d x) ≡ Fail (Overflow c)
  fails_within c e = go (out x) e
    where
      go : (o : Option Column) → ◌≡◌ {A = Result A Column} (Err c) (elim o [ None ↦ Ok x | Some b ↦ Err b ])
          → within o (d x) ≡ Fail (Overflow c)
      go None e = let no : ⊥ = cc in absurd no
      go (Some b) e = let same : c ≡ b = cc in ap (λ z. Fail (Overflow z)) (sym same)

module _ (q : PaymentRequest) (x : Handle) (s : EngineState) where
  -- WAREHOUSE
  abbrev on_warehouse : Warehouse → Warehouse → Doing
  on_warehouse w after = Go (Some (UpdateWarehouse (warehouse_of_district q.district) after))
      (InPayment q (PaymentDistrict w.name))

  abbrev do_warehouse : Warehouse → Doing
  do_warehouse w = within (paid_warehouse_out (paid_warehouse q w)) (on_warehouse w (paid_warehouse q w))

  pub warehouse_fails : (w : Warehouse) (c : Column)
      → get (view_of s).rows.warehouses (warehouse_of_district q.district) ≡ Some w
      → Err c ≡ row_in_ranges paid_warehouse_out (paid_warehouse q w)
      → act_here s x (request.Payment q) (InPayment q PaymentWarehouse) ≡ Fail (Overflow c)
  warehouse_fails w c e out =
      ap (λ o. with_value (NoSuchRow (key.Warehouse (warehouse_of_district q.district))) o do_warehouse) e
      ∙ fails_within paid_warehouse_out (paid_warehouse q w) (on_warehouse w) c out

  pub warehouse_stage : (w : Warehouse) (y : ℕ)
      → get (view_of s).rows.warehouses (warehouse_of_district q.district) ≡ Some w
      → Ok (record w { ytd = y }) ≡ row_in_ranges paid_warehouse_out (paid_warehouse q w)
      → IsStage q x s PaymentWarehouse (write.WarehouseYtd (warehouse_of_district q.district) y)
      (UpdateWarehouse (warehouse_of_district q.district) (record w { ytd = y })) (PaymentDistrict w.name)
  warehouse_stage w y e within_range = record {
    asks = refl;
    does = ap (λ o. with_value (NoSuchRow (key.Warehouse (warehouse_of_district q.district))) o do_warehouse) e
        ∙ goes_within paid_warehouse_out (paid_warehouse q w) (on_warehouse w) (record w { ytd = y }) within_range;
    written = ap (option_map (λ z. UpdateWarehouse (warehouse_of_district q.district) (record z { ytd = y }))) e;
  }

  -- DISTRICT
  module _ (name_of : List ℕ) where
    abbrev on_district : District → District → Doing
    on_district d after = Go (Some (UpdateDistrict q.district after))
        (InPayment q (behind_district q.customer name_of d.name))

    abbrev do_district : District → Doing
    do_district d = within (paid_district_out (paid_district q d)) (on_district d (paid_district q d))

    pub district_fails : (d : District) (c : Column) → get (view_of s).rows.districts q.district ≡ Some d
        → Err c ≡ row_in_ranges paid_district_out (paid_district q d)
        → act_here s x (request.Payment q) (InPayment q (PaymentDistrict name_of)) ≡ Fail (Overflow c)
    district_fails d c e out =
        ap (λ o. with_value (NoSuchRow (key.District q.district)) o do_district) e
        ∙ fails_within paid_district_out (paid_district q d) (on_district d) c out

    pub district_stage : (d : District) (y : ℕ) → get (view_of s).rows.districts q.district ≡ Some d
        → Ok (record d { ytd = y }) ≡ row_in_ranges paid_district_out (paid_district q d)
        → IsStage q x s (PaymentDistrict name_of) (write.DistrictYtd q.district y)
        (UpdateDistrict q.district (record d { ytd = y })) (behind_district q.customer name_of d.name)
    district_stage d y e within_range = record {
      asks = refl;
      does = ap (λ o. with_value (NoSuchRow (key.District q.district)) o do_district) e
          ∙ goes_within paid_district_out (paid_district q d) (on_district d) (record d { ytd = y }) within_range;
      written = ap (option_map (λ z. UpdateDistrict q.district (record z { ytd = y }))) e;
    }

  -- who has a last name
  module _ (w d : List ℕ) (last : List ℕ) (by_name : q.customer ≡ LastName last) where
    abbrev go_named : ℕ → Doing
    go_named c = Go None (InPayment q (PaymentCustomer w d c))

    pub names_asks : ask_here s x (request.Payment q) (InPayment q (PaymentNames w d)) ≡ Take
        (name.Names q.customer_district last) Shared
    names_asks = ap (names_lock q.customer_district) by_name

    pub names_find : (o : Option ℕ) → middle (namesakes q.customer_district last (view_of s).rows.customers) ≡ o
        → act_here s x (request.Payment q) (InPayment q (PaymentNames w d)) ≡ with_value NoCustomer o go_named
    names_find o e =
        ap (λ (who : CustomerChoice). with_value NoCustomer
        (customer_meant q.customer_district who (view_of s).rows.customers)
        go_named) by_name ∙ ap (λ z. with_value NoCustomer z go_named) e

  -- a payment by number has no such stage
  pub number_stops : (w d : List ℕ) (c : ℕ) → q.customer ≡ Number c
      → ask_here s x (request.Payment q) (InPayment q (PaymentNames w d)) ≡ Stop NoCustomer
  number_stops w d c e = ap (names_lock q.customer_district) e

  -- CUSTOMER
  module _ (w d : List ℕ) (n : ℕ) where
    abbrev on_customer : Customer → Doing
    on_customer after = Go (Some (UpdateCustomer (customer_in q.customer_district n) after))
        (InPayment q (PaymentHistory (history_data w d) (paid_reply n after)))

    abbrev do_customer : Customer → Doing
    do_customer z = within (paid_customer_out (paid_customer n q z)) (on_customer (paid_customer n q z))

    abbrev lock_of : Option Customer → Ask Name Refusal
    lock_of o = elim o [
      | None ↦ Stop NoCustomer
      | Some z ↦ Take (name.Customer (customer_in q.customer_district n)) Exclusive
    ]

    pub absent_stops : get (view_of s).rows.customers (customer_in q.customer_district n) ≡ None
        → ask_here s x (request.Payment q) (InPayment q (PaymentCustomer w d n)) ≡ Stop NoCustomer
    absent_stops e = ap lock_of e

    module _ (z : Customer) (row : get (view_of s).rows.customers (customer_in q.customer_district n) ≡ Some z) where
      pub customer_asks : ask_here s x (request.Payment q) (InPayment q (PaymentCustomer w d n)) ≡ Take
          (name.Customer (customer_in q.customer_district n)) Exclusive
      customer_asks = ap lock_of row

      does_customer : act_here s x (request.Payment q) (InPayment q (PaymentCustomer w d n)) ≡ do_customer z
      does_customer = ap (λ o. with_value NoCustomer o do_customer) row

      pub customer_fails : (c : Column) → Err c ≡ row_in_ranges paid_customer_out (paid_customer n q z)
          → act_here s x (request.Payment q) (InPayment q (PaymentCustomer w d n)) ≡ Fail (Overflow c)
      customer_fails c out = does_customer ∙ fails_within paid_customer_out (paid_customer n q z) on_customer c out

      module _ (a : Account)
          (within_range : Ok (paid_with n q z a) ≡ row_in_ranges paid_customer_out (paid_customer n q z)) where
        goes_customer : act_here s x (request.Payment q) (InPayment q (PaymentCustomer w d n)) ≡ on_customer
            (paid_with n q z a)
        goes_customer = does_customer ∙ goes_within paid_customer_out (paid_customer n q z) on_customer
            (paid_with n q z a) within_range

        -- of good credit, whose data stay
        pub good_stage : z.credit ≡ Good
            → IsStage q x s (PaymentCustomer w d n) (write.CustomerAccount (customer_in q.customer_district n) a)
            (UpdateCustomer (customer_in q.customer_district n) (paid_with n q z a))
            (PaymentHistory (history_data w d) (paid_reply n (paid_with n q z a)))
        good_stage good = record {
          asks = customer_asks;
          does = goes_customer;
          written = ap (option_map (λ y. UpdateCustomer (customer_in q.customer_district n) (record y { account = a })))
              row ∙ ap (λ y. Some (UpdateCustomer (customer_in q.customer_district n) y)) (good_data good);
        }
          where
            good_data : z.credit ≡ Good → record z { account = a } ≡ paid_with n q z a
            good_data good = rw good refl

        -- and of bad credit
        pub bad_stage : (entry : List ℕ) → z.credit ≡ Bad
            → entry ≡ credit_entry (record { customer = customer_in q.customer_district n; district = q.district })
            q.amount
            → IsStage q x s (PaymentCustomer w d n) (write.BadCredit (customer_in q.customer_district n) a entry)
            (UpdateCustomer (customer_in q.customer_district n) (paid_with n q z a))
            (PaymentHistory (history_data w d) (paid_reply n (paid_with n q z a)))
        bad_stage entry bad is = record {
          asks = customer_asks;
          does = goes_customer;
          written = ap (option_map (λ y. UpdateCustomer (customer_in q.customer_district n) (with_entry a entry y)))
              row ∙ ap (λ y. Some (UpdateCustomer (customer_in q.customer_district n) y)) (bad_data bad is);
        }
          where
            bad_data : z.credit ≡ Bad
                → entry ≡ credit_entry (record { customer = customer_in q.customer_district n; district = q.district })
                q.amount
                → with_entry a entry z ≡ paid_with n q z a
            bad_data bad is = rw (bad, is) refl

  -- HISTORY
  pub history_stage : (joined : List ℕ) (y : PaymentReply) (row : History) → row ≡ history_row q y.customer joined
      → IsStage q x s (PaymentHistory joined y)
      (write.InsertHistory (history_key x.terminal (suc ((view_of s).counts x.terminal))) row)
      (InsertHistory (history_key x.terminal (suc ((view_of s).counts x.terminal))) (history_row q y.customer joined))
      (PaymentEnd y)
  history_stage joined y row is = record {
    asks = refl;
    does = refl;
    written = ap (λ z. Some (InsertHistory (history_key x.terminal (suc ((view_of s).counts x.terminal))) z)) is;
  }
