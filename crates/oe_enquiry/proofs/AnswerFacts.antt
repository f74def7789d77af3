-- What was found makes an answer, and what was not found a refusal.
use Rattle.std.proofs.Common.{◌≡◌, ℕ, Option, None, Some, List, length, refl, sym, ap, subst, ◌∙◌}
use Rattle.std.specs.Prelude.{ℤ, option_map}
use Rattle.std.specs.FinMap.{FinMap, get}
use Rattle.oe_theory.specs.Machine.{Outcome, Here, Missing}
use Rattle.oe_rows.specs.Key.{customer_cmp}
use Rattle.oe_rows.specs.declared.keys.CustomerKey.{CustomerKey}
use Rattle.oe_rows.specs.declared.keys.DistrictKey.{DistrictKey}
use Rattle.oe_rows.specs.declared.keys.Key.TheVariants as key
use Rattle.oe_rows.specs.declared.customers.Customer.{Customer}
use Rattle.oe_rows.specs.declared.districts.District.{District}
use Rattle.oe_requests.specs.declared.requests.CustomerChoice.{CustomerChoice}
use Rattle.oe_requests.specs.declared.requests.CustomerChoice.TheVariants.{Number, LastName}
use Rattle.oe_requests.specs.declared.requests.StatusQuery.{StatusQuery}
use Rattle.oe_requests.specs.declared.requests.LevelQuery.{LevelQuery}
use Rattle.oe_requests.specs.declared.replies.OrderStatus.{OrderStatus}
use Rattle.oe_requests.specs.declared.replies.QueryReply.{QueryReply}
use Rattle.oe_requests.specs.declared.replies.QueryReply.TheVariants as told
use Rattle.oe_requests.specs.declared.refusals.Refusal.{Refusal}
use Rattle.oe_requests.specs.declared.refusals.Refusal.TheVariants.{NoSuchRow, NoCustomer}
use Rattle.oe_model.specs.Keys.{customer_in}
use Rattle.oe_model.specs.Rows.{Rows}
use Rattle.oe_model.specs.Choice.{customer_meant}
use Rattle.oe_model.specs.Queries.{reply_with, status_of, last_order, order_status, stock_level}
use Rattle.oe_model.specs.Rules.{AreLow}
use Rattle.oe_model.proofs.PresenceFacts.{mapped_absent}
use Rattle.oe_enquiry.specs.Reply.{customer_asked}
use Rattle.oe_enquiry.proofs.LevelFacts.{level_told}

-- go on where there is a value
on_some : {A : Type 0} (e : Refusal) (o : Option A) (x : A) (f : A → Outcome QueryReply Refusal) → Some x ≡ o
    → reply_with e o f ≡ f x
on_some e o x f h = ap (λ v. reply_with e v f) (sym h)

on_none : {A : Type 0} (e : Refusal) (o : Option A) (f : A → Outcome QueryReply Refusal) → None ≡ o
    → reply_with e o f ≡ Missing e
on_none e o f h = ap (λ v. reply_with e v f) (sym h)

-- the row whose column is told
row_of : {A B : Type 0} (f : A → B) (o : Option A) (y : B) → Some y ≡ option_map f o
    → (x : A) × (Some x ≡ o) × (f x ≡ y)
row_of f None y e = let no : ⊥ = cc in absurd no
row_of f (Some x) y e = (x, refl, (let z : f x ≡ y = cc in z))

no_row_of : {A B : Type 0} (f : A → B) (o : Option A) → None ≡ option_map f o → None ≡ o
no_row_of f o e = sym (mapped_absent f o (sym e))

-- a number that nobody has is refused as a customer who is not there
first_looked_up : (h : DistrictKey) (choice : CustomerChoice) (customers : FinMap customer_cmp Customer)
    (f : ℕ → Customer → Outcome QueryReply Refusal)
    → reply_with NoCustomer (customer_meant h choice customers)
    (λ c. reply_with NoCustomer (get customers (customer_in h c)) (f c))
    ≡ reply_with NoCustomer (customer_asked h choice customers)
    (λ c. reply_with NoCustomer (get customers (customer_in h c)) (f c))
first_looked_up h (Number n) customers f = by (get customers (customer_in h n)) refl
  where
    by : (v : Option Customer) → get customers (customer_in h n) ≡ v
        → reply_with NoCustomer (option_map (λ x. n) v)
        (λ c. reply_with NoCustomer (get customers (customer_in h c)) (f c)) ≡ reply_with NoCustomer
        (get customers (customer_in h n)) (f n)
    by None e = sym (ap (λ v. reply_with NoCustomer v (f n)) e)
    by (Some x) e = refl
first_looked_up h (LastName last) customers f = refl

module _ (q : StatusQuery) (r : Rows) where
  as_meant : order_status q r ≡ reply_with NoCustomer (customer_asked q.district q.customer r.customers) (λ c.
      reply_with NoCustomer (get r.customers (customer_in q.district c)) (λ x.
      Here (told.Status (record {
        customer = c;
        balance = x.account.balance;
        order = status_of r.order_lines (last_order (customer_in q.district c) r.orders);
      }))))
  as_meant = first_looked_up q.district q.customer r.customers (λ c x.
      Here (told.Status (record {
        customer = c;
        balance = x.account.balance;
        order = status_of r.order_lines (last_order (customer_in q.district c) r.orders);
      })))

  pub status_told : (c : ℕ) (k : CustomerKey) (b : ℤ) (o : Option OrderStatus)
      → Some c ≡ customer_asked q.district q.customer r.customers → k ≡ customer_in q.district c
      → Some b ≡ option_map (λ (x : Customer). x.account.balance) (get r.customers k)
      → o ≡ status_of r.order_lines (last_order k r.orders)
      → order_status q r ≡ Here (told.Status (record { customer = c; balance = b; order = o }))
  status_told c k b o at is there last =
      let x = row_of (λ (x : Customer). x.account.balance) (get r.customers k) b there in
      as_meant ∙ on_some NoCustomer (customer_asked q.district q.customer r.customers) c _ at
      ∙ on_some NoCustomer (get r.customers (customer_in q.district c)) x.0 _ (x.1 ∙ ap (get r.customers) is)
      ∙ (λ i. let y : Outcome QueryReply Refusal = Here
      (told.Status (record {
        customer = c;
        balance = x.2 i;
        order = sym
            (last ∙ ap (λ z. status_of r.order_lines (last_order z r.orders)) is) i;
      })) in y)

  pub nobody : None ≡ customer_asked q.district q.customer r.customers → order_status q r ≡ Missing NoCustomer
  nobody h = as_meant ∙ on_none NoCustomer (customer_asked q.district q.customer r.customers) _ h

  pub no_row : (c : ℕ) (k : CustomerKey) → Some c ≡ customer_asked q.district q.customer r.customers
      → k ≡ customer_in q.district c
      → None ≡ option_map (λ (x : Customer). x.account.balance) (get r.customers k)
      → order_status q r ≡ Missing NoCustomer
  no_row c k at is none =
      as_meant ∙ on_some NoCustomer (customer_asked q.district q.customer r.customers) c _ at
      ∙ on_none NoCustomer (get r.customers (customer_in q.district c)) _
      (no_row_of (λ (x : Customer). x.account.balance) (get r.customers k) none ∙ ap (get r.customers) is)

pub no_district : (q : LevelQuery) (r : Rows)
    → None ≡ option_map (λ (x : District). x.next_order) (get r.districts q.district)
    → stock_level q r ≡ Missing (NoSuchRow (key.District q.district))
no_district q r h =
    on_none (NoSuchRow (key.District q.district)) (get r.districts q.district) _
    (no_row_of (λ (x : District). x.next_order) (get r.districts q.district) h)

pub level_counted : (q : LevelQuery) (r : Rows) (next : ℕ) (items : List ℕ) (n : ℕ)
    → Some next ≡ option_map (λ (x : District). x.next_order) (get r.districts q.district)
    → AreLow q r next items → n ≡ length items → stock_level q r ≡ Here (told.Level n)
level_counted q r next items n at low is =
    let x = row_of (λ (x : District). x.next_order) (get r.districts q.district) next at in
    level_told q r x.0 items x.1 (subst (λ z. AreLow q r z items) (sym x.2) low)
    ∙ ap (λ (z : ℕ). let y : Outcome QueryReply Refusal = Here (told.Level z) in y) (sym is)
