-- Payment's rows read and write only what their locks allow.
use Rattle.std.proofs.Common.{◌≡◌, ℕ, refl, sym, ap, subst, List, ◌++◌, Option, Some, None, inl}
use Rattle.std.specs.Prelude.{is_some}
use Rattle.std.specs.FinMap.{get}
use Rattle.oe_theory.specs.Machine.{Shared, Exclusive, Ask, Stop, Take, Go, Tx, Hold}
use Rattle.oe_theory.specs.Laws.{IsAsked, all_held, Holds, with_asked, Alike}
use Rattle.oe_rows.specs.declared.keys.DistrictKey.{DistrictKey}
use Rattle.oe_rows.specs.declared.keys.CustomerKey.{CustomerKey}
use Rattle.oe_rows.specs.declared.keys.Key.TheVariants as key
use Rattle.oe_rows.specs.declared.customers.Customer.{Customer}
use Rattle.oe_rows.specs.declared.locks.Name.{Name}
use Rattle.oe_rows.specs.declared.locks.Name.TheVariants as name
use Rattle.oe_requests.specs.declared.requests.CustomerChoice.{CustomerChoice}
use Rattle.oe_requests.specs.declared.requests.CustomerChoice.TheVariants.{Number, LastName}
use Rattle.oe_requests.specs.declared.requests.PaymentRequest.{PaymentRequest}
use Rattle.oe_requests.specs.declared.requests.Request.{Request}
use Rattle.oe_requests.specs.declared.refusals.Refusal.{Refusal}
use Rattle.oe_requests.specs.declared.refusals.Refusal.TheVariants.{NoSuchRow, NoCustomer}
use Rattle.oe_model.specs.Keys.{warehouse_of_district, customer_in}
use Rattle.oe_model.specs.Rows.{Rows, row_at}
use Rattle.oe_model.specs.Changes.{Change, UpdateWarehouse, UpdateDistrict, UpdateCustomer, InsertHistory}
use Rattle.oe_model.specs.Positions.{Position, InPayment, PaymentPosition, PaymentWarehouse, PaymentDistrict}
use Rattle.oe_model.specs.Positions.{PaymentNames, PaymentCustomer, PaymentHistory, PaymentEnd}
use Rattle.oe_model.specs.Effects.{Doing}
use Rattle.oe_model.specs.Choice.{customer_meant}
use Rattle.oe_model.specs.Payment.{paid_warehouse, paid_district, paid_customer, history_key, history_row}
use Rattle.oe_model.specs.Payment.{names_lock, names_hold, behind_district, payment_taken}
use Rattle.oe_model.specs.System.{system, ask, act, locks_before}
use Rattle.oe_model.proofs.RowFacts.{un_warehouse, un_district, un_customer}
use Rattle.oe_model.proofs.LawFacts.{IsAskedNow, HeldThen, holds_asked, given_same, given_goes, within_goes, IsLawful}
use Rattle.oe_model.proofs.LawFacts.{HoldsNames, lawful_at, lawful_none, lawful_one, keeps_warehouse}
use Rattle.oe_model.proofs.LawFacts.{keeps_district, keeps_history, keeps_customer, alike_customer, alike_chosen}

-- the customer's lock, where it is there
abbrev customer_lock : PaymentRequest → ℕ → Option Customer → Ask Name Refusal
customer_lock q c o = elim o [
  | None ↦ Stop NoCustomer
  | Some x ↦ Take (name.Customer (customer_in q.customer_district c)) Exclusive
]

lock_same : (q : PaymentRequest) (c : ℕ) (a b : Option Customer) → is_some a ≡ is_some b
    → customer_lock q c a ≡ customer_lock q c b
lock_same q c None None e = refl
lock_same q c None (Some y) e = let no : ⊥ = cc in absurd no
lock_same q c (Some x) None e = let no : ⊥ = cc in absurd no
lock_same q c (Some x) (Some y) e = refl

pub payment_ask_same : (x : Tx Request) (q : PaymentRequest) (p : PaymentPosition) (r s : Rows)
    → Alike system (Holds system (locks_before x (InPayment q p))) x r s → ask x (InPayment q p) r
    ≡ ask x (InPayment q p) s
payment_ask_same x q (PaymentCustomer w d c) r s h =
    let k : CustomerKey = customer_in q.customer_district c in
    lock_same q c (get r.customers k) (get s.customers k)
    (alike_customer (Holds system (locks_before x (InPayment q (PaymentCustomer w d c)))) x r s h k)
payment_ask_same x q _ r s h = refl

-- at the customer's stage its row is read under its lock
customer_same : (x : Tx Request) (q : PaymentRequest) (w d : List ℕ) (c : ℕ) (r s : Rows)
    → IsAskedNow x (InPayment q (PaymentCustomer w d c)) r
    → Alike system (HeldThen x (InPayment q (PaymentCustomer w d c)) r) x r s
    → (o : Option Customer) → get r.customers (customer_in q.customer_district c) ≡ o
    → get r.customers (customer_in q.customer_district c) ≡ get s.customers (customer_in q.customer_district c)
customer_same x q w d c r s k h None e =
    absurd (subst (λ (v : Option Customer). IsAsked system (all_held system) (customer_lock q c v)) e k)
customer_same x q w d c r s k h (Some y) e =
    let p : Position = InPayment q (PaymentCustomer w d c) in
    un_customer _ _ (h.rows (key.Customer (customer_in q.customer_district c))
    (holds_asked (ask x p r) (locks_before x p) (name.Customer (customer_in q.customer_district c)) Exclusive Shared
    (ap (customer_lock q c) e) tt))

-- a payment by name holds the name where it looks the customer up, and behind that
names_held : (h : DistrictKey) (who : CustomerChoice) (hs : List (Hold Name))
    → HoldsNames (Holds system (with_asked system (names_lock h who) hs)) h who
names_held h (Number c) hs = tt
names_held h (LastName last) hs = inl (refl, tt)

names_taken : (h : DistrictKey) (who : CustomerChoice) (hs : List (Hold Name))
    → names_hold h who ++ hs ≡ with_asked system (names_lock h who) hs
names_taken h (Number c) hs = refl
names_taken h (LastName last) hs = refl

-- behind its district a payment holds the warehouse and the district alone
behind_taken : (q : PaymentRequest) (who : CustomerChoice) (w d : List ℕ) → q.customer ≡ who
    → payment_taken q (behind_district who w d) ≡ payment_taken q (PaymentNames w d)
behind_taken q (Number c) w d e =
    ap (λ v. names_hold q.customer_district v ++ payment_taken q (PaymentNames w d)) e
behind_taken q (LastName last) w d e = refl

pub payment_act_same : (x : Tx Request) (q : PaymentRequest) (p : PaymentPosition) (r s : Rows)
    → IsAskedNow x (InPayment q p) r → Alike system (HeldThen x (InPayment q p) r) x r s
    → act x (InPayment q p) r ≡ act x (InPayment q p) s
payment_act_same x q PaymentWarehouse r s k h =
    given_same (NoSuchRow (key.Warehouse (warehouse_of_district q.district))) _ _ _
    (un_warehouse _ _ (h.rows (key.Warehouse (warehouse_of_district q.district)) (inl (refl, tt))))
payment_act_same x q (PaymentDistrict w) r s k h = given_same (NoSuchRow (key.District q.district)) _ _ _
    (un_district _ _ (h.rows (key.District q.district) (inl (refl, tt))))
payment_act_same x q (PaymentNames w d) r s k h =
    given_same NoCustomer _ _ (λ c. let next : Doing = Go None (InPayment q (PaymentCustomer w d c)) in next)
    (alike_chosen (HeldThen x (InPayment q (PaymentNames w d)) r) x r s h q.customer_district q.customer
    (names_held q.customer_district q.customer (payment_taken q (PaymentNames w d))))
payment_act_same x q (PaymentCustomer w d c) r s k h =
    given_same NoCustomer _ _ _ (customer_same x q w d c r s k h _ refl)
payment_act_same x q (PaymentHistory d y) r s k h = refl
payment_act_same x q (PaymentEnd y) r s k h = refl

pub payment_lawful : (x : Tx Request) (q : PaymentRequest) (p : PaymentPosition) (r : Rows) (c : Option Change)
    (z : Position) → IsAskedNow x (InPayment q p) r → act x (InPayment q p) r ≡ Go c z
    → IsLawful x (InPayment q p) r c z
payment_lawful x q PaymentWarehouse r c z k e =
    let p : Position = InPayment q PaymentWarehouse in
    let (y, here, e1) = given_goes (NoSuchRow (key.Warehouse (warehouse_of_district q.district)))
    (get r.warehouses (warehouse_of_district q.district)) _ c z e in
    lawful_at x p r c _ z _ (within_goes _ _ c z e1)
    (lawful_one x p r (UpdateWarehouse (warehouse_of_district q.district) (paid_warehouse q y)) _ (λ n m h. h)
    (inl (refl, tt)) tt (keeps_warehouse r (warehouse_of_district q.district) y (paid_warehouse q y) here) (λ _. tt))
payment_lawful x q (PaymentDistrict w) r c z k e =
    let p : Position = InPayment q (PaymentDistrict w) in
    let (y, here, e1) = given_goes (NoSuchRow (key.District q.district)) (get r.districts q.district) _ c z e in
    lawful_at x p r c _ z _ (within_goes _ _ c z e1)
    (lawful_one x p r (UpdateDistrict q.district (paid_district q y)) _
    (λ n m h. subst (λ (hs : List (Hold Name)). Holds system hs n m) (behind_taken q q.customer w y.name refl) h)
    (inl (refl, tt)) tt
    (keeps_district r q.district y (paid_district q y) here) (λ _. tt))
payment_lawful x q (PaymentNames w d) r c z k e =
    let p : Position = InPayment q (PaymentNames w d) in
    let (b, found, e1) = given_goes NoCustomer (customer_meant q.customer_district q.customer r.customers) _ c z e in
    lawful_at x p r c _ z _ e1 (lawful_none x p r (InPayment q (PaymentCustomer w d b))
    (λ n m h. subst (λ (hs : List (Hold Name)). Holds system hs n m)
    (names_taken q.customer_district q.customer (payment_taken q (PaymentNames w d))) h) (λ _. tt))
payment_lawful x q (PaymentCustomer w d b) r c z k e =
    let p : Position = InPayment q (PaymentCustomer w d b) in
    let (y, here, e1) = given_goes NoCustomer (get r.customers (customer_in q.customer_district b)) _ c z e in
    let a : ask x p r ≡ Take (name.Customer (customer_in q.customer_district b)) Exclusive =
    ap (customer_lock q b) here in
    lawful_at x p r c _ z _ (within_goes _ _ c z e1)
    (lawful_one x p r (UpdateCustomer (customer_in q.customer_district b) (paid_customer b q y)) _
    (λ n m h. subst (λ (v : Ask Name Refusal). Holds system (with_asked system v (locks_before x p)) n m) (sym a) h)
    (holds_asked (ask x p r) (locks_before x p)
    (name.Customer (customer_in q.customer_district b)) Exclusive Exclusive a tt)
    tt
    (keeps_customer r (customer_in q.customer_district b) y (paid_customer b q y) here refl refl) (λ _. tt))
payment_lawful x q (PaymentHistory d y) r c z k e =
    let p : Position = InPayment q (PaymentHistory d y) in
    lawful_at x p r c _ z _ e
    (lawful_one x p r (InsertHistory (history_key x.terminal x.number) (history_row q y.customer d))
    (InPayment q (PaymentEnd y)) (λ n m h. h) (refl, refl) tt
    (keeps_history (row_at r (key.History (history_key x.terminal x.number))) (history_key x.terminal x.number)
    (history_row q y.customer d)) (λ _. tt))
payment_lawful x q (PaymentEnd y) r c z k e = let no : ⊥ = cc in absurd no
