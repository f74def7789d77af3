-- A rename's rows read and write only what their locks allow.
use Rattle.std.proofs.Common.{◌≡◌, ℕ, refl, sym, ◌∙◌, ap, subst, cond, false, List, Option, Some, None, inl, inr}
use Rattle.std.specs.Prelude.{◌⊎◌, is_some, option_map, option_and_then}
use Rattle.std.specs.Ordering.{eq_by_cmp, nat_cmp}
use Rattle.std.specs.Cmp.Lexicographic.{slice_cmp, nat_list_cmp_total}
use Rattle.std.specs.FinMap.{IsAntisymmetric, get, nat_cmp-IsAntisymmetric, slice_cmp-IsAntisymmetric}
use Rattle.oe_theory.specs.Machine.{Shared, Exclusive, Ask, Stop, Take, Go, Tx, Hold}
use Rattle.oe_theory.specs.Laws.{IsAsked, all_held, Holds, with_asked, MayWrite, Alike}
use Rattle.oe_rows.specs.declared.keys.CustomerKey.{CustomerKey}
use Rattle.oe_rows.specs.declared.keys.Key.TheVariants as key
use Rattle.oe_rows.specs.declared.rows.Row.TheVariants as row
use Rattle.oe_rows.specs.declared.customers.Customer.{Customer}
use Rattle.oe_rows.specs.declared.locks.Name.{Name}
use Rattle.oe_rows.specs.declared.locks.Name.TheVariants as name
use Rattle.oe_requests.specs.declared.requests.RenameRequest.{RenameRequest}
use Rattle.oe_requests.specs.declared.requests.Request.{Request}
use Rattle.oe_requests.specs.declared.refusals.Refusal.{Refusal}
use Rattle.oe_requests.specs.declared.refusals.Refusal.TheVariants.{NoCustomer}
use Rattle.oe_model.specs.Keys.{district_of_customer}
use Rattle.oe_model.specs.Rows.{Rows, row_at, as_customer}
use Rattle.oe_model.specs.Changes.{Change, UpdateCustomer}
use Rattle.oe_model.specs.Locks.{WarehouseThere, DistrictThere, CustomerThere, CustomerNamed, StockThere, WholeItem}
use Rattle.oe_model.specs.Locks.{There, First, part, first_if_named, governs_part}
use Rattle.oe_model.specs.Positions.{Position, InRename, RenamePosition, RenameCustomer, RenameOld, RenameNew}
use Rattle.oe_model.specs.Positions.{RenameEnd}
use Rattle.oe_model.specs.Rename.{HasLast, with_new_name}
use Rattle.oe_model.specs.System.{system, ask, act, locks_before}
use Rattle.oe_model.proofs.PresenceFacts.{key_cases}
use Rattle.oe_model.proofs.RowFacts.{un_customer}
use Rattle.oe_model.proofs.LawFacts.{IsAskedNow, HeldThen, held_then, holds_asked, given_same, given_goes, IsLawful}
use Rattle.oe_model.proofs.LawFacts.{Recalls, MayTurn, lawful_at, lawful_none, changes_one, alike_customer}

-- the customer's lock, where it is there
abbrev customer_lock : RenameRequest → Option Customer → Ask Name Refusal
customer_lock q o = elim o [ None ↦ Stop NoCustomer | Some x ↦ Take (name.Customer q.customer) Exclusive ]

lock_same : (q : RenameRequest) (a b : Option Customer) → is_some a ≡ is_some b → customer_lock q a ≡ customer_lock q b
lock_same q None None e = refl
lock_same q None (Some y) e = let no : ⊥ = cc in absurd no
lock_same q (Some x) None e = let no : ⊥ = cc in absurd no
lock_same q (Some x) (Some y) e = refl

pub rename_ask_same : (x : Tx Request) (q : RenameRequest) (p : RenamePosition) (r s : Rows)
    → Alike system (Holds system (locks_before x (InRename q p))) x r s → ask x (InRename q p) r
    ≡ ask x (InRename q p) s
rename_ask_same x q RenameCustomer r s h = lock_same q (get r.customers q.customer) (get s.customers q.customer)
    (alike_customer (Holds system (locks_before x (InRename q RenameCustomer))) x r s h q.customer)
rename_ask_same x q _ r s h = refl

asks_customer : (x : Tx Request) (q : RenameRequest) (r : Rows) → IsAskedNow x (InRename q RenameCustomer) r
    → (o : Option Customer) → get r.customers q.customer ≡ o
    → ask x (InRename q RenameCustomer) r ≡ Take (name.Customer q.customer) Exclusive
asks_customer x q r k None e =
    absurd (subst (λ (v : Option Customer). IsAsked system (all_held system) (customer_lock q v)) e k)
asks_customer x q r k (Some y) e = ap (customer_lock q) e

pub rename_act_same : (x : Tx Request) (q : RenameRequest) (p : RenamePosition) (r s : Rows)
    → IsAskedNow x (InRename q p) r → Alike system (HeldThen x (InRename q p) r) x r s
    → act x (InRename q p) r ≡ act x (InRename q p) s
rename_act_same x q RenameCustomer r s k h =
    let p : Position = InRename q RenameCustomer in
    given_same NoCustomer _ _ _ (un_customer _ _ (h.rows (key.Customer q.customer)
    (holds_asked (ask x p r) (locks_before x p) (name.Customer q.customer) Exclusive Shared
    (asks_customer x q r k _ refl) tt)))
rename_act_same x q (RenameOld last) r s k h = refl
rename_act_same x q (RenameNew last) r s k h =
    given_same NoCustomer _ _ _ (un_customer _ _ (h.rows (key.Customer q.customer) (inr (inr (inl (refl, tt))))))
rename_act_same x q (RenameEnd last) r s k h = refl

-- a new name: each facet stands but for who has the old and who has the new last name, which may be written
exact_text : IsAntisymmetric (slice_cmp nat_cmp)
exact_text = slice_cmp-IsAntisymmetric nat_cmp-IsAntisymmetric

module _ (x : Tx Request) (q : RenameRequest) (last : List ℕ) (r : Rows) (y : Customer)
    (here : get r.customers q.customer ≡ Some y) (was : y.name.last ≡ last) where
  abbrev hs : List (Hold Name)
  hs = held_then x (InRename q (RenameNew last)) r

  stands : (z : List ℕ) → eq_by_cmp (slice_cmp nat_cmp) q.last z ≡ false → eq_by_cmp (slice_cmp nat_cmp) last z ≡ false
      → first_if_named z (Some (with_new_name q y)) ≡ first_if_named z (Some y)
  stands z new old =
      ap (λ b. cond b (Some q.first) None) new
      ∙ sym (ap (λ b. cond b (Some y.name.first) None)
      (ap (λ (l : List ℕ). eq_by_cmp (slice_cmp nat_cmp) l z) was ∙ old))

  named_turns : (j : CustomerKey) (z : List ℕ) → j ≡ q.customer
      → (q.last ≡ z) ⊎ (eq_by_cmp (slice_cmp nat_cmp) q.last z ≡ false)
      → (last ≡ z) ⊎ (eq_by_cmp (slice_cmp nat_cmp) last z ≡ false)
      → (part (CustomerNamed j z) (Some (row.Customer (with_new_name q y)))
      ≡ part (CustomerNamed j z) (row_at r (key.Customer q.customer)))
      ⊎ MayWrite system (Holds system hs) x (governs_part (CustomerNamed j z))
  named_turns j z same (inl e) o = inr (inl (λ i. name.Names (district_of_customer (sym same i)) (e i), tt))
  named_turns j z same (inr n) (inl e) =
      inr (inr (inl (λ i. name.Names (district_of_customer (sym same i)) (e i), tt)))
  named_turns j z same (inr n) (inr o) =
      inl (ap First (stands z n o)
      ∙ ap (λ (v : Option Customer). First (first_if_named z (option_and_then as_customer (option_map row.Customer v))))
      (sym here))

  turns : MayTurn x hs (UpdateCustomer q.customer (with_new_name q y)) (row_at r (key.Customer q.customer))
  turns (WarehouseThere j) h = let no : ⊥ = cc in absurd no
  turns (DistrictThere j) h = let no : ⊥ = cc in absurd no
  turns (CustomerThere j) h =
      inl (ap (λ (v : Option Customer). There (is_some (option_map row.Customer v))) (sym here))
  turns (CustomerNamed j z) h =
      let same : j ≡ q.customer = cc in
      named_turns j z same (key_cases nat_list_cmp_total exact_text q.last z)
      (key_cases nat_list_cmp_total exact_text last z)
  turns (StockThere j) h = let no : ⊥ = cc in absurd no
  turns (WholeItem j) h = let no : ⊥ = cc in absurd no

last_of : (q : RenameRequest) (last : List ℕ) (r : Rows) (y : Customer) → get r.customers q.customer ≡ Some y
    → HasLast q.customer last r → y.name.last ≡ last
last_of q last r y here (z, is, e) =
    let one : Some y ≡ Some z = sym here ∙ is in
    let two : y ≡ z = cc in
    ap (λ (c : Customer). c.name.last) two ∙ e

pub rename_lawful : (x : Tx Request) (q : RenameRequest) (p : RenamePosition) (r : Rows) (c : Option Change)
    (z : Position) → IsAskedNow x (InRename q p) r → act x (InRename q p) r ≡ Go c z
    → IsLawful x (InRename q p) r c z
rename_lawful x q RenameCustomer r c z k e =
    let p : Position = InRename q RenameCustomer in
    let (y, here, e1) = given_goes NoCustomer (get r.customers q.customer) _ c z e in
    lawful_at x p r c _ z _ e1 (lawful_none x p r (InRename q (RenameOld y.name.last))
    (λ n m h. subst (λ (v : Ask Name Refusal). Holds system (with_asked system v (locks_before x p)) n m)
    (sym (asks_customer x q r k _ refl)) h) (λ _. (y, here, refl)))
rename_lawful x q (RenameOld last) r c z k e =
    let p : Position = InRename q (RenameOld last) in
    lawful_at x p r c _ z _ e (lawful_none x p r (InRename q (RenameNew last)) (λ n m h. h) (λ b. b))
rename_lawful x q (RenameNew last) r c z k e =
    let p : Position = InRename q (RenameNew last) in
    let (y, here, e1) = given_goes NoCustomer (get r.customers q.customer) _ c z e in
    lawful_at x p r c _ z _ e1
    (changes_one x (held_then x p r) r (Recalls p r) (UpdateCustomer q.customer (with_new_name q y))
    (InRename q (RenameEnd last)) (λ n m h. h) (inr (inr (inl (refl, tt)))) tt
    (λ b. turns x q last r y here (last_of q last r y here b)) (λ _. tt))
rename_lawful x q (RenameEnd last) r c z k e = let no : ⊥ = cc in absurd no
