-- Open work can be put back in any order, and commits behind it, also after a change of a row that no other's work is
-- about.
use Rattle.std.proofs.Common.{◌≡◌, ◌≢◌, ℕ, zero, suc, Bool, true, false, cond, refl, sym, ap, ◌∙◌, subst, inl, inr, ◌⊎◌}
use Rattle.std.proofs.Common.{arith, List, [], ◌∷◌, length, take, drop, Option, None, Some}
use Rattle.std.specs.Prelude.{IsSome, is_some, option_map, option_and_then}
use Rattle.std.specs.FinMap.{get}
use Rattle.std.proofs.lemmas.Bool.{cases_eq}
use Rattle.std.proofs.lemmas.List.{take_all, drop_all}
use Rattle.oe_rows.specs.declared.keys.CustomerKey.{CustomerKey}
use Rattle.oe_rows.specs.declared.keys.DistrictKey.{DistrictKey}
use Rattle.oe_rows.specs.declared.keys.OrderKey.{OrderKey}
use Rattle.oe_rows.specs.declared.keys.StockKey.{StockKey}
use Rattle.oe_rows.specs.declared.keys.Key.{Key}
use Rattle.oe_rows.specs.declared.keys.Key.TheVariants as key
use Rattle.oe_rows.specs.declared.rows.Row.{Row}
use Rattle.oe_rows.specs.declared.rows.Row.TheVariants as row
use Rattle.oe_theory.specs.World.{set}
use Rattle.oe_theory.specs.Next.{record_on}
use Rattle.oe_theory.specs.Undo.{unwind, unwind_commits}
use Rattle.oe_theory.proofs.Sets.{set_same, set_other, set_swap}
use Rattle.oe_rows.specs.Before.{warehouse_before, district_before, customer_before, order_before, order_line_before}
use Rattle.oe_rows.specs.Before.{stock_before, with_district, with_customer, with_stock}
use Rattle.oe_model.specs.Keys.{order_of_new_order, order_of_line, customer_of_order, supply_of_line}
use Rattle.oe_model.specs.Rows.{Rows, is_key, row_at, as_warehouse, as_district, as_customer, as_order, as_order_line}
use Rattle.oe_model.specs.Rows.{as_stock}
use Rattle.oe_model.specs.Changes.{Change, InsertHistory, InsertNewOrder, InsertOrder, InsertOrderLine, UpdateWarehouse}
use Rattle.oe_model.specs.Changes.{UpdateDistrict, UpdateCustomer, UpdateOrder, UpdateOrderLine, UpdateStock}
use Rattle.oe_model.specs.Changes.{DeleteNewOrder, key_of, row_of, rows_after, Record, InsertedHistory}
use Rattle.oe_model.specs.Changes.{InsertedNewOrder}
use Rattle.oe_model.specs.Changes.{InsertedOrder, InsertedOrderLine, UpdatedWarehouse, UpdatedDistrict, UpdatedCustomer}
use Rattle.oe_model.specs.Changes.{UpdatedOrder, UpdatedOrderLine, UpdatedStock, DeletedNewOrder, record_key}
use Rattle.oe_model.specs.Changes.{restore, put_back, record_in, columns_before, with_columns}
use Rattle.oe_model.specs.Changes.{ChangedWarehouse, ChangedDistrict, ChangedCustomer, ChangedOrder, ChangedOrderLine}
use Rattle.oe_model.specs.Changes.{ChangedStock}
use Rattle.oe_rows.specs.declared.layouts.Layout.{Layout}
use Rattle.oe_rows.specs.declared.layouts.Layout.TheVariants.{WholeRows, ChangedColumns}
use Rattle.oe_model.specs.Meets.{Meets, Accepts}
use Rattle.oe_model.specs.System.{system}
use Rattle.oe_model.proofs.RowFacts.{key_true, key_refl, at_changed, at_put_back, same_rows, out-map, undone, un_order}
use Rattle.oe_model.proofs.PresenceFacts.{some-map, mapped_absent}
use Rattle.oe_model.proofs.ChangeFacts.{accepted_meets}
use Rattle.oe_change.specs.PutBack.{Stands}
use Rattle.oe_change.proofs.UndoFacts.{stands}
use Rattle.oe_journal.specs.GoesBack.{CanUnwind, CanUnwindAll}
use Rattle.oe_engine.specs.Covered.{IsWhole, FindsNewest, put_newest, HaveNone, Unwinds}
use Rattle.oe_engine.proofs.LockFacts.{set_own, set_at, set_twice}

-- rows at other keys
is_other : (a b : Key) → a ≢ b → is_key a b ≡ false
is_other a b ne = go (is_key a b) refl
  where
    go : (x : Bool) → is_key a b ≡ x → is_key a b ≡ false
    go true e = absurd (ne (key_true a b e))
    go false e = e

at_other_changed : (c : Change) (r : Rows) (k : Key) → k ≢ key_of c → row_at (rows_after c r) k ≡ row_at r k
at_other_changed c r k ne = at_changed c r k ∙ ap (λ z. cond z (row_of c) (row_at r k)) (is_other k (key_of c) ne)

pub at_other_put_back : (b : Record) (r : Rows) (k : Key) → k ≢ record_key b → row_at (put_back b r) k ≡ row_at r k
at_other_put_back b r k ne = at_put_back b r k ∙ ap (λ z. cond z (restore b (row_at r k)) (row_at r k))
    (is_other k (record_key b) ne)

-- a change and the undo of another row's change come in any order
pub commutes : (b : Record) (c : Change) (r : Rows) → record_key b ≢ key_of c
    → put_back b (rows_after c r) ≡ rows_after c (put_back b r)
commutes b c r ne = same_rows _ _ (λ k.
    at_put_back b (rows_after c r) k
    ∙ ap (λ o. cond (is_key k (record_key b)) (restore b o) o) (at_changed c r k)
    ∙ go k (is_key k (record_key b)) (is_key k (key_of c)) refl refl
    ∙ sym (ap (cond (is_key k (key_of c)) (row_of c)) (at_put_back b r k))
    ∙ sym (at_changed c (put_back b r) k))
  where
    go : (k : Key) (x y : Bool) → is_key k (record_key b) ≡ x → is_key k (key_of c) ≡ y
        → cond x (restore b (cond y (row_of c) (row_at r k))) (cond y (row_of c) (row_at r k)) ≡ cond y (row_of c)
        (cond x (restore b (row_at r k)) (row_at r k))
    go k true true e d = absurd (ne (sym (key_true k (record_key b) e) ∙ key_true k (key_of c) d))
    go k true false e d = refl
    go k false true e d = refl
    go k false false e d = refl

-- a record finds the row that its change left by that row alone
stands_same : (b : Record) (r s : Rows) → row_at r (record_key b) ≡ row_at s (record_key b) → Stands b r → Stands b s
stands_same (DeletedNewOrder k v) r s e h = mapped_absent row.NewOrder (get s.new_orders k)
    (sym e ∙ ap (option_map row.NewOrder) h)
stands_same (InsertedHistory k v) r s e h = subst (λ (o : Option Row). IsSome o) e h
stands_same (InsertedNewOrder k v) r s e h = subst (λ (o : Option Row). IsSome o) e h
stands_same (InsertedOrder k v) r s e h = subst (λ (o : Option Row). IsSome o) e h
stands_same (InsertedOrderLine k v) r s e h = subst (λ (o : Option Row). IsSome o) e h
stands_same (UpdatedWarehouse k v) r s e h = subst (λ (o : Option Row). IsSome o) e h
stands_same (UpdatedDistrict k v) r s e h = subst (λ (o : Option Row). IsSome o) e h
stands_same (UpdatedCustomer k v) r s e h = subst (λ (o : Option Row). IsSome o) e h
stands_same (UpdatedOrder k v) r s e h = subst (λ (o : Option Row). IsSome o) e h
stands_same (UpdatedOrderLine k v) r s e h = subst (λ (o : Option Row). IsSome o) e h
stands_same (UpdatedStock k v) r s e h = subst (λ (o : Option Row). IsSome o) e h
stands_same (ChangedWarehouse k v) r s e h = subst (λ (o : Option Row). IsSome o) e h
stands_same (ChangedDistrict k v) r s e h = subst (λ (o : Option Row). IsSome o) e h
stands_same (ChangedCustomer k v) r s e h = subst (λ (o : Option Row). IsSome o) e h
stands_same (ChangedOrder k v) r s e h = subst (λ (o : Option Row). IsSome o) e h
stands_same (ChangedOrderLine k v) r s e h = subst (λ (o : Option Row). IsSome o) e h
stands_same (ChangedStock k v) r s e h = subst (λ (o : Option Row). IsSome o) e h

pub stands_made : (l : Layout) (c : Change) (r : Rows) → Stands (record_on system l c r) (rows_after c r)
stands_made l c r =
    stands l c (row_at r (key_of c)) (rows_after c r)
    (at_changed c r (key_of c) ∙ ap (λ z. cond z (row_of c) (row_at r (key_of c))) (key_refl (key_of c)))

-- an accepted update has its row before
there_as : {A : Type 0} (f : A → Row) (out : Row → Option A) → ((x : A) → out (f x) ≡ Some x) → (o : Option A)
    → IsSome o → IsSome (option_and_then out (option_map f o))
there_as {A = A} f out h o is = subst (λ (z : Option A). IsSome z) (sym (out-map f out h o)) is

-- and so are its columns
columns_there : {X C : Type 0} (old : X → X → C) (f : X → Row) (out : Row → Option X) → ((x : X) → out (f x) ≡ Some x)
    → (o : Option X) (x : X) → IsSome o → IsSome (columns_before old out (option_map f o) x)
columns_there old f out h o x is =
    some-map (λ y. old y x) (option_and_then out (option_map f o)) ∙ there_as f out h o is

pub whole_made : (l : Layout) (c : Change) (r : Rows) → Accepts c r → IsWhole (record_on system l c r)
whole_made WholeRows (InsertHistory k x) r a = tt
whole_made WholeRows (InsertNewOrder k x) r a = tt
whole_made WholeRows (InsertOrder k x) r a = tt
whole_made WholeRows (InsertOrderLine k x) r a = tt
whole_made WholeRows (UpdateWarehouse k x) r a = there_as row.Warehouse as_warehouse (λ _. refl) (get r.warehouses k) a
whole_made WholeRows (UpdateDistrict k x) r a = there_as row.District as_district (λ _. refl) (get r.districts k) a
whole_made WholeRows (UpdateCustomer k x) r a =
    there_as row.Customer as_customer (λ _. refl) (get r.customers k) a
whole_made WholeRows (UpdateOrder k x) r a = there_as row.Order as_order (λ _. refl) (get r.orders k) (ap is_some a.1)
whole_made WholeRows (UpdateOrderLine k x) r a =
    there_as row.OrderLine as_order_line (λ _. refl) (get r.order_lines k) a.0
whole_made WholeRows (UpdateStock k x) r a = there_as row.Stock as_stock (λ _. refl) (get r.stocks k) a
whole_made WholeRows (DeleteNewOrder k) r a = tt
whole_made ChangedColumns (InsertHistory k x) r a = tt
whole_made ChangedColumns (InsertNewOrder k x) r a = tt
whole_made ChangedColumns (InsertOrder k x) r a = tt
whole_made ChangedColumns (InsertOrderLine k x) r a = tt
whole_made ChangedColumns (UpdateWarehouse k x) r a =
    columns_there warehouse_before row.Warehouse as_warehouse (λ _. refl) (get r.warehouses k) x a
whole_made ChangedColumns (UpdateDistrict k x) r a =
    columns_there district_before row.District as_district (λ _. refl) (get r.districts k) x a
whole_made ChangedColumns (UpdateCustomer k x) r a =
    columns_there customer_before row.Customer as_customer (λ _. refl) (get r.customers k) x a
whole_made ChangedColumns (UpdateOrder k x) r a =
    columns_there order_before row.Order as_order (λ _. refl) (get r.orders k) x (ap is_some a.1)
whole_made ChangedColumns (UpdateOrderLine k x) r a =
    columns_there order_line_before row.OrderLine as_order_line (λ _. refl) (get r.order_lines k) x a.0
whole_made ChangedColumns (UpdateStock k x) r a =
    columns_there stock_before row.Stock as_stock (λ _. refl) (get r.stocks k) x a
whole_made ChangedColumns (DeleteNewOrder k) r a = tt

-- Rows that other rows refer to are there while whole records are put back. Customers, districts and stocks
stays_there : (b : Record) (r : Rows) (k : Key) → (IsSome (row_at r k) → IsSome (restore b (row_at r k)))
    → IsSome (row_at r k) → IsSome (row_at (put_back b r) k)
stays_there b r k before here = subst (λ (o : Option Row). IsSome o) (sym (at_put_back b r k))
    (go (is_key k (record_key b)))
  where
    go : (x : Bool) → IsSome (cond x (restore b (row_at r k)) (row_at r k))
    go true = before here
    go false = here

-- columns are put back on a row that is there
columns_on : {X C : Type 0} (put : C → X → X) (f : X → Row) (out : Row → Option X) → ((x : X) → out (f x) ≡ Some x)
    → (v : Option C) (o : Option X) → IsSome v → IsSome (option_map f o)
    → IsSome (option_map f (with_columns put v (option_and_then out (option_map f o))))
columns_on put f out h None o v is = let no : ⊥ = cc in absurd no
columns_on put f out h (Some c) None v is = let no : ⊥ = cc in absurd no
columns_on put f out h (Some c) (Some x) v is =
    subst (λ z. IsSome (option_map f (with_columns put (Some c) z))) (sym (h x)) refl

customer_stays : (b : Record) (r : Rows) (k : CustomerKey) → IsWhole b → IsSome (row_at r (key.Customer k))
    → IsSome (row_at (put_back b r) (key.Customer k))
customer_stays (UpdatedCustomer j v) r k w h = stays_there (UpdatedCustomer j v) r (key.Customer k)
    (λ _. some-map row.Customer v ∙ w) h
customer_stays (ChangedCustomer j v) r k w h = stays_there (ChangedCustomer j v) r (key.Customer k)
    (columns_on with_customer row.Customer as_customer (λ _. refl) v (get r.customers k) w) h
customer_stays _ r k w h = h

district_stays : (b : Record) (r : Rows) (k : DistrictKey) → IsWhole b → IsSome (row_at r (key.District k))
    → IsSome (row_at (put_back b r) (key.District k))
district_stays (UpdatedDistrict j v) r k w h = stays_there (UpdatedDistrict j v) r (key.District k)
    (λ _. some-map row.District v ∙ w) h
district_stays (ChangedDistrict j v) r k w h = stays_there (ChangedDistrict j v) r (key.District k)
    (columns_on with_district row.District as_district (λ _. refl) v (get r.districts k) w) h
district_stays _ r k w h = h

stock_stays : (b : Record) (r : Rows) (k : StockKey) → IsWhole b → IsSome (row_at r (key.Stock k))
    → IsSome (row_at (put_back b r) (key.Stock k))
stock_stays (UpdatedStock j v) r k w h = stays_there (UpdatedStock j v) r (key.Stock k)
    (λ _. some-map row.Stock v ∙ w) h
stock_stays (ChangedStock j v) r k w h = stays_there (ChangedStock j v) r (key.Stock k)
    (columns_on with_stock row.Stock as_stock (λ _. refl) v (get r.stocks k) w) h
stock_stays _ r k w h = h

-- and an order that is not the record's
order_stays : (b : Record) (r : Rows) (k : OrderKey) → record_key b ≢ key.Order k → IsSome (row_at r (key.Order k))
    → IsSome (row_at (put_back b r) (key.Order k))
order_stays b r k ne h = subst (λ (o : Option Row). IsSome o)
    (sym (at_other_put_back b r (key.Order k) (λ e. ne (sym e)))) h

-- the order that a change's new row refers to
abbrev pub RefersTo : Change → OrderKey → Type 0
RefersTo (InsertNewOrder k x) o = o ≡ order_of_new_order k
RefersTo (InsertOrderLine k x) o = o ≡ order_of_line k
RefersTo _ o = ⊥

-- a record is of another row than a change, and of none that the change refers to
pub record IsApart (c : Change) (b : Record) : Type 0 where
  pub other : record_key b ≢ key_of c
  pub order : (o : OrderKey) → RefersTo c o → record_key b ≢ key.Order o
  pub whole : IsWhole b

-- then the change is accepted before the record's change too
module _ (b : Record) (r : Rows) where
  abbrev then_rows : Rows
  then_rows = put_back b r

  customer_then : (k : CustomerKey) → IsWhole b → IsSome (get r.customers k) → IsSome (get then_rows.customers k)
  customer_then k w h = sym (some-map row.Customer (get then_rows.customers k))
      ∙ customer_stays b r k w (some-map row.Customer (get r.customers k) ∙ h)

  district_then : (k : DistrictKey) → IsWhole b → IsSome (get r.districts k) → IsSome (get then_rows.districts k)
  district_then k w h = sym (some-map row.District (get then_rows.districts k))
      ∙ district_stays b r k w (some-map row.District (get r.districts k) ∙ h)

  stock_then : (k : StockKey) → IsWhole b → IsSome (get r.stocks k) → IsSome (get then_rows.stocks k)
  stock_then k w h = sym (some-map row.Stock (get then_rows.stocks k))
      ∙ stock_stays b r k w (some-map row.Stock (get r.stocks k) ∙ h)

  order_then : (k : OrderKey) → record_key b ≢ key.Order k → IsSome (get r.orders k) → IsSome (get then_rows.orders k)
  order_then k ne h = sym (some-map row.Order (get then_rows.orders k))
      ∙ order_stays b r k ne (some-map row.Order (get r.orders k) ∙ h)

there_alike : {A : Type 0} (f : A → Row) (o p : Option A) → option_map f p ≡ option_map f o → IsSome o → IsSome p
there_alike f o p e h = sym (some-map f p) ∙ (ap is_some e ∙ (some-map f o ∙ h))

absent_alike : {A : Type 0} (f : A → Row) (o p : Option A) → option_map f p ≡ option_map f o → o ≡ None → p ≡ None
absent_alike f o p e h = mapped_absent f p (e ∙ ap (option_map f) h)

pub accepted_before : (c : Change) (b : Record) (r : Rows) → IsApart c b → Accepts c r → Accepts c (put_back b r)
accepted_before c b r p a = go c p.order (at_other_put_back b r (key_of c) (λ e. p.other (sym e))) a
  where
    go : (d : Change) → ((o : OrderKey) → RefersTo d o → record_key b ≢ key.Order o)
        → row_at (put_back b r) (key_of d) ≡ row_at r (key_of d) → Accepts d r → Accepts d (put_back b r)
    go (InsertHistory k x) n e h = (
      absent_alike row.History (get r.histories k) _ e h.0,
      customer_then b r x.customer p.whole h.1,
      district_then b
          r x.district p.whole h.2,
    )
    go (InsertNewOrder k x) n e h = (
      absent_alike row.NewOrder (get r.new_orders k) _ e h.0,
      order_then b r (order_of_new_order k)
          (n (order_of_new_order k) refl) h.1,
    )
    go (InsertOrder k x) n e h =
        (absent_alike row.Order (get r.orders k) _ e h.0, customer_then b r (customer_of_order k x) p.whole h.1)
    go (InsertOrderLine k x) n e h = (
      absent_alike row.OrderLine (get r.order_lines k) _ e h.0,
      order_then b r (order_of_line k)
          (n (order_of_line k) refl) h.1,
      stock_then b r (supply_of_line x) p.whole h.2,
    )
    go (UpdateWarehouse k x) n e h = there_alike row.Warehouse (get r.warehouses k) _ e h
    go (UpdateDistrict k x) n e h = there_alike row.District (get r.districts k) _ e h
    go (UpdateCustomer k x) n e h = there_alike row.Customer (get r.customers k) _ e h
    go (UpdateOrder k x) n e h = (h.0, un_order _ (get r.orders k) e ∙ h.1, h.2)
    go (UpdateOrderLine k x) n e h =
        (there_alike row.OrderLine (get r.order_lines k) _ e h.0, stock_then b r (supply_of_line x) p.whole h.1)
    go (UpdateStock k x) n e h = there_alike row.Stock (get r.stocks k) _ e h
    go (DeleteNewOrder k) n e h = there_alike row.NewOrder (get r.new_orders k) _ e h

-- Lists of records, of which the newest is put back
abbrev pub AreApart : Change → List Record → Type 0
AreApart c [] = Unit {0}
AreApart c (b ∷ bs) = IsApart c b × AreApart c bs

apart_below : (c : Change) (bs : List Record) → AreApart c bs → AreApart c (drop 1 bs)
apart_below c [] p = tt
apart_below c (b ∷ bs) p = p.1

finds_under : (c : Change) (bs : List Record) (r : Rows) → AreApart c bs → FindsNewest bs r
    → FindsNewest bs (rows_after c r)
finds_under c [] r p h = tt
finds_under c (b ∷ bs) r p h = stands_same b r (rows_after c r) (sym (at_other_changed c r (record_key b) p.0.other)) h

put_under : (c : Change) (bs : List Record) (r : Rows) → AreApart c bs
    → put_newest bs (rows_after c r) ≡ rows_after c (put_newest bs r)
put_under c [] r p = refl
put_under c (b ∷ bs) r p = commutes b c r p.0.other

row_under : (c : Change) (bs : List Record) (r : Rows) → AreApart c bs
    → row_at (put_newest bs r) (key_of c) ≡ row_at r (key_of c)
row_under c [] r p = refl
row_under c (b ∷ bs) r p = at_other_put_back b r (key_of c) (λ e. p.0.other (sym e))

accepts_under : (c : Change) (bs : List Record) (r : Rows) → AreApart c bs → Accepts c r → Accepts c (put_newest bs r)
accepts_under c [] r p a = a
accepts_under c (b ∷ bs) r p a = accepted_before c b r p.0 a

-- Open work that can be put back in any order, and commits behind it. The records of a terminal being known
at_head : (ss : List (List Record)) (f : ℕ → List Record) (u : ℕ) (bs : List Record) (r : Rows) (ts : List ℕ) → f u ≡ bs
    → FindsNewest bs r → Unwinds ss (set u (drop 1 bs) f) (put_newest bs r) ts
    → Unwinds ss f r (u ∷ ts)
at_head ss f u bs r ts e finds rest =
    subst (λ (z : List Record). FindsNewest z r × Unwinds ss (set u (drop 1 z) f) (put_newest z r) ts) (sym e)
    (finds, rest)

module _ (ss : List (List Record)) where
  abbrev pub UnwindsAll : (ℕ → List Record) → Rows → Type 0
  UnwindsAll f r = (ts : List ℕ) → Unwinds ss f r ts

  -- also with a change on it that no other terminal's work is about
  abbrev MadeUnwinds : Layout → Change → ℕ → List ℕ → Type 0
  MadeUnwinds l c t ts =
      (f : ℕ → List Record) (r : Rows) → Accepts c r → ((u : ℕ) → u ≢ t → AreApart c (f u)) → UnwindsAll f r
      → Unwinds ss (set t (record_on system l c r ∷ f t) f) (rows_after c r) ts

  made_own : (l : Layout) (c : Change) (t : ℕ) (ts : List ℕ) (f : ℕ → List Record) (r : Rows) → UnwindsAll f r
      → Unwinds ss (set t (record_on system l c r ∷ f t) f) (rows_after c r) (t ∷ ts)
  made_own l c t ts f r h =
      let there : set t (record_on system l c r ∷ f t) f t ≡ record_on system l c r ∷ f t =
      set_at t (record_on system l c r ∷ f t) f in
      let same : set t (f t) (set t (record_on system l c r ∷ f t) f) ≡ f =
      set_twice t (f t) (record_on system l c r ∷ f t) f ∙ set_own t f in
      at_head ss (set t (record_on system l c r ∷ f t) f) t (record_on system l c r ∷ f t)
      (rows_after c r) ts
      there
      (stands_made l c r)
      (subst (λ (z : ℕ → List Record). Unwinds ss z (put_back (record_on system l c r) (rows_after c r)) ts)
      (sym same)
      (subst (λ (z : Rows). Unwinds ss f z ts) (sym (undone l c r)) (h ts)))

  apart_then : (c : Change) (t u : ℕ) (f : ℕ → List Record) → ((w : ℕ) → w ≢ t → AreApart c (f w)) → u ≢ t → (w : ℕ)
      → w ≢ t → AreApart c (set u (drop 1 (f u)) f w)
  apart_then c t u f p ne w nw = go (cases_eq w u)
    where
      go : (w ≡ u) ⊎ (w ≢ u) → AreApart c (set u (drop 1 (f u)) f w)
      go (inl e) = subst (AreApart c) (sym (set_same u (drop 1 (f u)) f w e)) (apart_below c (f u) (p u ne))
      go (inr e) = subst (AreApart c) (sym (set_other u (drop 1 (f u)) f w e)) (p w nw)

  made_other : (l : Layout) (c : Change) (t : ℕ) (ts : List ℕ) → MadeUnwinds l c t ts → (u : ℕ) → u ≢ t
      → MadeUnwinds l c t (u ∷ ts)
  made_other l c t ts below u ne f r a p h =
      let q : AreApart c (f u) = p u ne in
      let there : set t (record_on system l c r ∷ f t) f u
      ≡ f u = set_other t (record_on system l c r ∷ f t) f u ne in
      let next : Unwinds ss
      (set t (record_on system l c (put_newest (f u) r) ∷ set u (drop 1 (f u)) f t) (set u (drop 1 (f u)) f))
      (rows_after c (put_newest (f u) r)) ts =
      below (set u (drop 1 (f u)) f) (put_newest (f u) r) (accepts_under c (f u) r q a) (apart_then c t u f p ne)
      (λ us. (h (u ∷ us)).1) in
      let records : record_on system l c (put_newest (f u) r) ∷ set u (drop 1 (f u)) f t
      ≡ record_on system l c r ∷ f t =
      λ i. record_in l c (row_under c (f u) r q i) ∷ set_other u (drop 1 (f u)) f t (λ e. ne (sym e)) i in
      let logs : set t (record_on system l c (put_newest (f u) r) ∷ set u (drop 1 (f u)) f t)
      (set u (drop 1 (f u)) f) ≡ set u (drop 1 (f u)) (set t (record_on system l c r ∷ f t) f) =
      ap (λ (z : List Record). set t z (set u (drop 1 (f u)) f)) records
      ∙ set_swap t u (record_on system l c r ∷ f t) (drop 1 (f u)) f ne in
      at_head ss (set t (record_on system l c r ∷ f t) f) u (f u) (rows_after c r) ts there
      (finds_under c (f u) r q (h (u ∷ [])).0)
      (subst (λ (z : Rows). Unwinds ss (set u (drop 1 (f u)) (set t (record_on system l c r ∷ f t) f)) z ts)
      (sym (put_under c (f u) r q))
      (subst (λ (z : ℕ → List Record). Unwinds ss z (rows_after c (put_newest (f u) r)) ts) logs next))

  made_step : (l : Layout) (c : Change) (t : ℕ) (ts : List ℕ) → MadeUnwinds l c t ts → (u : ℕ)
      → MadeUnwinds l c t (u ∷ ts)
  made_step l c t ts below u f r a p h = go (cases_eq u t)
    where
      go : (u ≡ t) ⊎ (u ≢ t) → Unwinds ss (set t (record_on system l c r ∷ f t) f) (rows_after c r) (u ∷ ts)
      go (inl e) = subst
          (λ (z : ℕ). Unwinds ss (set t (record_on system l c r ∷ f t) f) (rows_after c r) (z ∷ ts)) (sym e)
          (made_own l c t ts f r h)
      go (inr ne) = made_other l c t ts below u ne f r a p h

  -- who has a record has some
  not_none : (t : ℕ) (b : Record) (bs : List Record) (f : ℕ → List Record) → HaveNone (set t (b ∷ bs) f) → ⊥
  not_none t b bs f none =
      let no : b ∷ bs ≡ [] = sym (set_at t (b ∷ bs) f) ∙ none t in
      let never : ⊥ = cc in
      never

  pub made_unwinds : (l : Layout) (c : Change) (t : ℕ) (ts : List ℕ) (f : ℕ → List Record) (r : Rows) → Accepts c r
      → ((u : ℕ) → u ≢ t → AreApart c (f u)) → UnwindsAll f r
      → Unwinds ss (set t (record_on system l c r ∷ f t) f) (rows_after c r) ts
  made_unwinds l c t [] f r a p h =
      (accepted_meets c r a (h []).0, λ none. absurd (not_none t (record_on system l c r) (f t) f none))
  made_unwinds l c t (u ∷ ts) f r a p h = made_step l c t ts (λ g s b q k. made_unwinds l c t ts g s b q k) u f r a p h

  -- where a terminal's newest records were put back
  pub back_unwinds : (n : ℕ) (bs : List Record) (t : ℕ) (f : ℕ → List Record) (r : Rows) → f t ≡ bs → UnwindsAll f r
      → UnwindsAll (set t (drop n bs) f) (unwind system (take n bs) r)
  back_unwinds zero bs t f r e h = λ ts. subst (λ (z : ℕ → List Record). Unwinds ss z r ts)
      (sym (ap (λ (z : List Record). set t z f) (sym e) ∙ set_own t f)) (h ts)
  back_unwinds (suc n) [] t f r e h = λ ts. subst (λ (z : ℕ → List Record). Unwinds ss z r ts)
      (sym (ap (λ (z : List Record). set t z f) (sym e) ∙ set_own t f)) (h ts)
  back_unwinds (suc n) (b ∷ bs) t f r e h =
      let one : UnwindsAll (set t bs f) (put_back b r) =
      λ ts. subst (λ (z : List Record). Unwinds ss (set t (drop 1 z) f) (put_newest z r) ts) e (h (t ∷ ts)).1 in
      let more = back_unwinds n bs t (set t bs f) (put_back b r) (set_at t bs f) one in
      λ ts. subst (λ (z : ℕ → List Record). Unwinds ss z (unwind system (take n bs) (put_back b r)) ts)
      (set_twice t (drop n bs) bs f) (more ts)

  -- they can be
  pub can_go_back : (n : ℕ) (bs : List Record) (t : ℕ) (f : ℕ → List Record) (r : Rows) → f t ≡ bs → UnwindsAll f r
      → CanUnwind (take n bs) r
  can_go_back zero bs t f r e h = tt
  can_go_back (suc n) [] t f r e h = tt
  can_go_back (suc n) (b ∷ bs) t f r e h =
      let one : UnwindsAll (set t bs f) (put_back b r) =
      λ ts. subst (λ (z : List Record). Unwinds ss (set t (drop 1 z) f) (put_newest z r) ts) e (h (t ∷ ts)).1 in (
        subst (λ (z : List Record). FindsNewest z r) e (h (t ∷ [])).0,
        (one []).0,
        can_go_back n bs t (set t bs f)
            (put_back b r) (set_at t bs f) one,
      )

  -- all of them can be, and are
  pub all_go_back : (t : ℕ) (f : ℕ → List Record) (r : Rows) → UnwindsAll f r → CanUnwind (f t) r
  all_go_back t f r h = subst (λ bs. CanUnwind bs r) (take_all (length (f t)) (f t) (omega arith))
      (can_go_back (length (f t)) (f t) t f r refl h)

  pub all_back : (t : ℕ) (f : ℕ → List Record) (r : Rows) → UnwindsAll f r
      → UnwindsAll (set t [] f) (unwind system (f t) r)
  all_back t f r h ts =
      subst (λ z. Unwinds ss (set t z f) (unwind system (f t) r) ts) (drop_all (length (f t)) (f t) (omega arith))
      (subst (λ z. Unwinds ss (set t (drop (length (f t)) (f t)) f) (unwind system z r) ts)
      (take_all (length (f t)) (f t) (omega arith)) (back_unwinds (length (f t)) (f t) t f r refl h ts))

  -- where a terminal's records were sealed they are the newest commit's
  abbrev SealedUnwinds : ℕ → List ℕ → Type 0
  SealedUnwinds t ts = (f : ℕ → List Record) (r : Rows) → UnwindsAll f r → Unwinds (f t ∷ ss) (set t [] f) r ts

  sealed_step : (t : ℕ) (ts : List ℕ) → SealedUnwinds t ts → (u : ℕ) → SealedUnwinds t (u ∷ ts)
  sealed_step t ts below u f r h = go (cases_eq u t)
    where
      go : (u ≡ t) ⊎ (u ≢ t) → Unwinds (f t ∷ ss) (set t [] f) r (u ∷ ts)
      go (inl e) =
          at_head (f t ∷ ss) (set t [] f) u [] r ts (set_same t [] f u e) tt
          (subst (λ (z : ℕ → List Record). Unwinds (f t ∷ ss) z r ts)
          (sym (ap (λ (k : ℕ). set k [] (set t [] f)) e ∙ set_twice t [] [] f)) (below f r h))
      go (inr ne) =
          at_head (f t ∷ ss) (set t [] f) u (f u) r ts (set_other t [] f u ne) (h (u ∷ [])).0
          (subst (λ (z : List Record). Unwinds (z ∷ ss) (set u (drop 1 (f u)) (set t [] f)) (put_newest (f u) r) ts)
          (set_other u (drop 1 (f u)) f t (λ e. ne (sym e)))
          (subst (λ (z : ℕ → List Record). Unwinds (set u (drop 1 (f u)) f t ∷ ss) z (put_newest (f u) r) ts)
          (set_swap t u [] (drop 1 (f u)) f ne)
          (below (set u (drop 1 (f u)) f) (put_newest (f u) r) (λ us. (h (u ∷ us)).1))))

  pub sealed_unwinds : (t : ℕ) (ts : List ℕ) (f : ℕ → List Record) (r : Rows) → UnwindsAll f r
      → Unwinds (f t ∷ ss) (set t [] f) r ts
  sealed_unwinds t [] f r h = ((h []).0, λ none. (all_go_back t f r h, (all_back t f r h []).1 none))
  sealed_unwinds t (u ∷ ts) f r h = sealed_step t ts (λ g s k. sealed_unwinds t ts g s k) u f r h

-- where the oldest commits were forgotten
all_taken : (n : ℕ) (ss : List (List Record)) (r : Rows) → CanUnwindAll ss r → CanUnwindAll (take n ss) r
all_taken zero ss r h = tt
all_taken (suc n) [] r h = tt
all_taken (suc n) (bs ∷ ss) r h = (h.0, all_taken n ss (unwind system bs r) h.1)

pub purged_unwinds : (n : ℕ) (ss : List (List Record)) (ts : List ℕ) (f : ℕ → List Record) (r : Rows)
    → Unwinds ss f r ts → Unwinds (take n ss) f r ts
purged_unwinds n ss [] f r h = (h.0, λ none. all_taken n ss r (h.1 none))
purged_unwinds n ss (t ∷ ts) f r h = (h.0, purged_unwinds n ss ts (set t (drop 1 (f t)) f) (put_newest (f t) r) h.1)

-- where the newest were undone
pub all_left : (n : ℕ) (ss : List (List Record)) (r : Rows) → CanUnwindAll ss r
    → CanUnwindAll (drop n ss) (unwind_commits system (take n ss) r)
all_left zero ss r h = h
all_left (suc n) [] r h = tt
all_left (suc n) (bs ∷ ss) r h = all_left n ss (unwind system bs r) h.1

-- and where there is no open work
pub none_unwinds : (ss : List (List Record)) (ts : List ℕ) (r : Rows) → Meets r → CanUnwindAll ss r
    → Unwinds ss (λ _. []) r ts
none_unwinds ss [] r m h = (m, λ none. h)
none_unwinds ss (t ∷ ts) r m h =
    let none : ℕ → List Record = λ _. [] in
    (tt, subst (λ (z : ℕ → List Record). Unwinds ss z r ts) (sym (set_own t none)) (none_unwinds ss ts r m h))
