-- What an engine knows of its customers' names each move keeps.
use Rattle.std.proofs.Common.{◌≡◌, ◌≢◌, ℕ, zero, suc, ◌-◌, ◌≤◌, ◌<◌, Bool, true, false, cond, refl, sym, ap, ◌∙◌}
use Rattle.std.proofs.Common.{subst, inl, inr, arith, List, [], ◌∷◌, length, take, drop, Option, None, Some}
use Rattle.std.specs.Prelude.{◌⊎◌, option_map, option_and_then}
use Rattle.std.specs.Option.{unwrap_or}
use Rattle.std.specs.FinMap.{get}
use Rattle.std.specs.Cmp.Lexicographic.{bytes_decides}
use Rattle.std.proofs.lemmas.Bool.{cases_eq, true≢false}
use Rattle.std.proofs.lemmas.List.{take_all}
use mathlib.Core.Path.{fun_ext}
use Rattle.oe_rows.specs.declared.keys.CustomerKey.{CustomerKey}
use Rattle.oe_rows.specs.declared.keys.Key.{Key}
use Rattle.oe_rows.specs.declared.keys.Key.TheVariants as key
use Rattle.oe_rows.specs.declared.customers.Customer.{Customer}
use Rattle.oe_rows.specs.declared.customers.CustomerName.{CustomerName}
use Rattle.oe_rows.specs.declared.layouts.Layout.{Layout}
use Rattle.oe_rows.specs.declared.locks.Name.{Name}
use Rattle.oe_rows.specs.declared.layouts.Layout.TheVariants.{WholeRows, ChangedColumns}
use Rattle.oe_rows.specs.declared.rows.Row.{Row}
use Rattle.oe_rows.specs.declared.rows.Row.TheVariants as row
use Rattle.oe_rows.specs.Before.{text_before, customer_name_before, customer_before, with_customer}
use Rattle.oe_requests.specs.declared.replies.Reply.{Reply}
use Rattle.oe_requests.specs.declared.requests.Request.{Request}
use Rattle.oe_theory.specs.Machine as theory
use Rattle.oe_theory.specs.World.{set}
use Rattle.oe_theory.specs.Next.{record_on}
use Rattle.oe_theory.specs.Undo.{unwind, unwind_open, unwind_commits}
use Rattle.oe_theory.specs.Store.{version_of, all_below}
use Rattle.oe_theory.proofs.Past.{total_bump}
use Rattle.oe_theory.proofs.Sets.{some_inj}
use Rattle.oe_model.specs.Rows.{Rows, is_key, row_at, as_customer}
use Rattle.oe_model.specs.Changes.{Change, InsertHistory, InsertNewOrder, InsertOrder, InsertOrderLine, UpdateWarehouse}
use Rattle.oe_model.specs.Changes.{UpdateDistrict, UpdateCustomer, UpdateOrder, UpdateOrderLine, UpdateStock}
use Rattle.oe_model.specs.Changes.{DeleteNewOrder, key_of, row_of, rows_after, Record, record_key, restore}
use Rattle.oe_model.specs.Changes.{put_back, columns_before, with_columns}
use Rattle.oe_model.specs.Choice.{name_in, name_at, HaveSameNames}
use Rattle.oe_model.specs.Locks.{governs}
use Rattle.oe_model.specs.System.{system, terminal_limit}
use Rattle.oe_model.proofs.RowFacts.{key_true, at_changed, at_put_back, in_layout_key}
use Rattle.oe_change.specs.declared.writes.Write.{Write}
use Rattle.oe_change.specs.declared.writes.Write.TheVariants as writes
use Rattle.oe_change.specs.Writes.{change_of}
use Rattle.oe_store.specs.Places.{rows}
use Rattle.oe_store.specs.Places as tables
use Rattle.oe_log.specs.Log as undo
use Rattle.oe_log.specs.Moments.{store_with}
use Rattle.oe_undo.specs.Chains.{HaveNone}
use Rattle.oe_locks.specs.Held.{Holdings}
use Rattle.oe_locks.specs.Terminals.{has}
use Rattle.oe_engine.specs.View.{View, view_from, opened_view}
use Rattle.oe_engine.specs.Covered.{Owns, AreOwned, MayMake, IsSafe}
use Rattle.oe_engine.specs.Calls.{newest, after_begin, after_change, count_since, back_at, after_commit, after_rollback}
use Rattle.oe_engine.specs.Calls.{after_purge, after_rewind}
use Rattle.oe_engine.specs.Renames.{KeepsName, KeepNames, AllKeepNames, AreNamed, Notes}
use Rattle.oe_writes.specs.Kinds.{is_rename}
use Rattle.oe_engine.specs.Renames.{Forgets, HasStood}
use Rattle.oe_engine.specs.declared.renames.Renames.{Renames}
use Rattle.oe_engine.proofs.SafeFacts.{at_each, has_none, two_owners}

abbrev Names : Type 0
Names = CustomerKey → Option CustomerName

-- Records that keep names leave them when they are put back
module _ (names : Names) where
  abbrev Stand : Rows → Type 0
  Stand r = (k : CustomerKey) → name_at r k ≡ names k

  back_named : (b : Record) (r : Rows) → KeepsName names b → Stand r → Stand (put_back b r)
  back_named b r keeps now k =
      ap name_in (at_put_back b r (key.Customer k)) ∙ go (is_key (key.Customer k) (record_key b)) refl
    where
      go : (c : Bool) → is_key (key.Customer k) (record_key b) ≡ c
          → name_in (cond c (restore b (row_at r (key.Customer k))) (row_at r (key.Customer k))) ≡ names k
      go true e = keeps k (sym (key_true (key.Customer k) (record_key b) e)) (row_at r (key.Customer k)) (now k)
      go false e = now k

  unwind_named : (bs : List Record) (r : Rows) → KeepNames names bs → Stand r → Stand (unwind system bs r)
  unwind_named [] r keep now = now
  unwind_named (b ∷ bs) r keep now = unwind_named bs (put_back b r) keep.1 (back_named b r keep.0 now)

  open_named : (active : ℕ → List Record) (ts : List ℕ) (r : Rows) → ((t : ℕ) → KeepNames names (active t)) → Stand r
      → Stand (unwind_open system active ts r)
  open_named active [] r keep now = now
  open_named active (t ∷ ts) r keep now =
      open_named (set t [] active) ts (unwind system (active t) r)
      (at_each (λ u bs. KeepNames names bs) t [] active tt (λ u ne. keep u))
      (unwind_named (active t) r (keep t) now)

  commits_named : (ss : List (List Record)) (r : Rows) → AllKeepNames names ss → Stand r
      → Stand (unwind_commits system ss r)
  commits_named [] r keep now = now
  commits_named (bs ∷ ss) r keep now =
      commits_named ss (unwind system bs r) keep.1 (unwind_named bs r keep.0 now)

  first_keep : (n : ℕ) (bs : List Record) → KeepNames names bs → KeepNames names (take n bs)
  first_keep zero bs h = tt
  first_keep (suc n) [] h = tt
  first_keep (suc n) (b ∷ bs) h = (h.0, first_keep n bs h.1)

  last_keep : (n : ℕ) (bs : List Record) → KeepNames names bs → KeepNames names (drop n bs)
  last_keep zero bs h = h
  last_keep (suc n) [] h = tt
  last_keep (suc n) (b ∷ bs) h = last_keep n bs h.1

  -- of fewer commits, and of those that a purge leaves
  fewer_keep : (a b : ℕ) (ss : List (List Record)) → a ≤ b → AllKeepNames names (take b ss)
      → AllKeepNames names (take a ss)
  fewer_keep zero b ss low h = tt
  fewer_keep (suc a) zero ss low h = absurd (let no : ⊥ = omega (arith, low) in no)
  fewer_keep (suc a) (suc b) [] low h = tt
  fewer_keep (suc a) (suc b) (bs ∷ ss) low h = (h.0, fewer_keep a b ss (omega (arith, low)) h.1)

  kept_keep : (a b : ℕ) (ss : List (List Record)) → AllKeepNames names (take a ss)
      → AllKeepNames names (take a (take b ss))
  kept_keep zero b ss h = tt
  kept_keep (suc a) zero ss h = tt
  kept_keep (suc a) (suc b) [] h = tt
  kept_keep (suc a) (suc b) (bs ∷ ss) h = (h.0, kept_keep a b ss h.1)

  none_keep : (n : ℕ) → AllKeepNames names (take n [])
  none_keep zero = tt
  none_keep (suc n) = tt

  -- a commit more
  sealed_keep : (n : ℕ) (since : ℕ) (bs : List Record) (ss : List (List Record)) → KeepNames names bs
      → AllKeepNames names (take (n - since) ss) → AllKeepNames names (take (suc n - since) (bs ∷ ss))
  sealed_keep n since bs ss own h = fewer_keep (suc n - since) (suc (n - since)) (bs ∷ ss) (omega arith) (own, h)

-- A write other than a rename leaves its customer's names, and its record brings back the same
abbrev pub SameName : Change → Rows → Type 0
SameName (UpdateCustomer k x) r = (y : Customer) × (get r.customers k ≡ Some y) × (x.name ≡ y.name)
SameName _ r = Unit {0}

pub of_row : {X : Type 0} (P : Change → Type 0) (f : X → Change) (v : Option X) (c : Change)
    → ((x : X) → v ≡ Some x → P (f x)) → option_map f v ≡ Some c → P c
of_row P f None c h e = let no : ⊥ = cc in absurd no
of_row P f (Some x) c h e = subst P (some_inj _ _ e) (h x refl)

pub same_name : (w : Write) (r : Rows) (c : Change) → is_rename w ≡ false → change_of w r ≡ Some c → SameName c r
same_name (writes.WarehouseYtd k y) r c n e = of_row (λ d. SameName d r) _ (get r.warehouses k) c (λ x at. tt) e
same_name (writes.DistrictYtd k y) r c n e = of_row (λ d. SameName d r) _ (get r.districts k) c (λ x at. tt) e
same_name (writes.NextOrder k o) r c n e = of_row (λ d. SameName d r) _ (get r.districts k) c (λ x at. tt) e
same_name (writes.CustomerAccount k a) r c n e =
    of_row (λ d. SameName d r) _ (get r.customers k) c (λ x at. (x, at, refl)) e
same_name (writes.BadCredit k a t) r c n e =
    of_row (λ d. SameName d r) _ (get r.customers k) c (λ x at. (x, at, refl)) e
same_name (writes.CustomerNames k l f) r c n e = let no : ⊥ = cc in absurd no
same_name (writes.StockCounters k s) r c n e = of_row (λ d. SameName d r) _ (get r.stocks k) c (λ x at. tt) e
same_name (writes.Carrier k o) r c n e = of_row (λ d. SameName d r) _ (get r.orders k) c (λ x at. tt) e
same_name (writes.DeliveryDate k t) r c n e = of_row (λ d. SameName d r) _ (get r.order_lines k) c (λ x at. tt) e
same_name (writes.InsertHistory k x) r c n e = subst (λ d. SameName d r) (some_inj _ _ e) tt
same_name (writes.InsertNewOrder k) r c n e = subst (λ d. SameName d r) (some_inj _ _ e) tt
same_name (writes.InsertOrder k x) r c n e = subst (λ d. SameName d r) (some_inj _ _ e) tt
same_name (writes.InsertOrderLine k x) r c n e = subst (λ d. SameName d r) (some_inj _ _ e) tt
same_name (writes.DeleteNewOrder k) r c n e = subst (λ d. SameName d r) (some_inj _ _ e) tt

pub changed_named : (c : Change) (r : Rows) → SameName c r → (k : CustomerKey) → name_at (rows_after c r) k
    ≡ name_at r k
changed_named (UpdateCustomer a x) r same k =
    ap name_in (at_changed (UpdateCustomer a x) r (key.Customer k)) ∙ go (is_key (key.Customer k) (key.Customer a)) refl
  where
    go : (b : Bool) → is_key (key.Customer k) (key.Customer a) ≡ b
        → name_in (cond b (Some (row.Customer x)) (row_at r (key.Customer k))) ≡ name_at r k
    go true e =
        ap Some same.2 ∙ sym (ap (λ q. name_in (row_at r q)) (key_true (key.Customer k) (key.Customer a) e)
        ∙ ap (λ v. name_in (option_map row.Customer v)) same.1)
    go false e = refl
changed_named (InsertHistory a x) r same k = refl
changed_named (InsertNewOrder a x) r same k = refl
changed_named (InsertOrder a x) r same k = refl
changed_named (InsertOrderLine a x) r same k = refl
changed_named (UpdateWarehouse a x) r same k = refl
changed_named (UpdateDistrict a x) r same k = refl
changed_named (UpdateOrder a x) r same k = refl
changed_named (UpdateOrderLine a x) r same k = refl
changed_named (UpdateStock a x) r same k = refl
changed_named (DeleteNewOrder a) r same k = refl

-- no name comes back with columns that don't differ
same_text : (t : List ℕ) → text_before t t ≡ None
same_text t = ap (λ b. cond b None (Some t)) ((bytes_decides t t).1 refl)

same_columns : (n m : CustomerName) → m ≡ n → (z : CustomerName)
    → ◌≡◌ {A = CustomerName} (record {
      first = unwrap_or (customer_name_before n m).first z.first;
      middle = unwrap_or (customer_name_before n m).middle z.middle;
      last = unwrap_or (customer_name_before n m).last z.last;
    }) z
same_columns n m e z =
    subst (λ (m : CustomerName). ◌≡◌ {A = CustomerName} (record {
      first = unwrap_or (customer_name_before n m).first z.first;
      middle = unwrap_or (customer_name_before n m).middle z.middle;
      last = unwrap_or (customer_name_before n m).last z.last;
    }) z) (sym e)
    (λ i. record {
      first = unwrap_or (same_text n.first i) z.first;
      middle = unwrap_or (same_text n.middle i) z.middle;
      last = unwrap_or (same_text n.last i) z.last;
    })

again : (v : Option Customer)
    → name_in (option_map row.Customer (option_and_then as_customer (option_map row.Customer v)))
    ≡ name_in (option_map row.Customer v)
again None = refl
again (Some x) = refl

named_with : (y x : Customer) → x.name ≡ y.name → (o : Option Customer)
    → name_in (option_map row.Customer (with_columns with_customer (Some (customer_before y x)) o))
    ≡ option_map (λ (z : Customer). z.name) o
named_with y x e None = refl
named_with y x e (Some z) = ap Some (same_columns y.name x.name e z.name)

not_customer : {P : Type 0} (q p : Key) (k : CustomerKey) → q ≡ p → q ≡ key.Customer k → (p ≡ key.Customer k → ⊥) → P
not_customer q p k e f never = absurd (never (sym e ∙ f))

record_named : (l : Layout) (c : Change) (r : Rows) → SameName c r → KeepsName (name_at r) (record_on system l c r)
record_named WholeRows (UpdateCustomer a x) r same k e v h =
    again (get r.customers a) ∙ ap (λ q. name_in (row_at r q)) e
record_named ChangedColumns (UpdateCustomer a x) r same k e v h =
    ap (λ o. name_in (option_map row.Customer (with_columns with_customer
    (columns_before customer_before as_customer (option_map row.Customer o) x) (option_and_then as_customer v)))) same.1
    ∙ named_with same.0 x same.2 (option_and_then as_customer v) ∙ h
record_named l (InsertHistory a x) r same k e v h =
    not_customer _ _ k (in_layout_key l (InsertHistory a x) (row_at r (key.History a))) e (λ s. let no : ⊥ = cc in no)
record_named l (InsertNewOrder a x) r same k e v h =
    not_customer _ _ k (in_layout_key l (InsertNewOrder a x) (row_at r (key.NewOrder a))) e
    (λ s. let no : ⊥ = cc in no)
record_named l (InsertOrder a x) r same k e v h =
    not_customer _ _ k (in_layout_key l (InsertOrder a x) (row_at r (key.Order a))) e (λ s. let no : ⊥ = cc in no)
record_named l (InsertOrderLine a x) r same k e v h =
    not_customer _ _ k (in_layout_key l (InsertOrderLine a x) (row_at r (key.OrderLine a))) e
    (λ s. let no : ⊥ = cc in no)
record_named l (UpdateWarehouse a x) r same k e v h =
    not_customer _ _ k (in_layout_key l (UpdateWarehouse a x) (row_at r (key.Warehouse a))) e
    (λ s. let no : ⊥ = cc in no)
record_named l (UpdateDistrict a x) r same k e v h =
    not_customer _ _ k (in_layout_key l (UpdateDistrict a x) (row_at r (key.District a))) e
    (λ s. let no : ⊥ = cc in no)
record_named l (UpdateOrder a x) r same k e v h =
    not_customer _ _ k (in_layout_key l (UpdateOrder a x) (row_at r (key.Order a))) e (λ s. let no : ⊥ = cc in no)
record_named l (UpdateOrderLine a x) r same k e v h =
    not_customer _ _ k (in_layout_key l (UpdateOrderLine a x) (row_at r (key.OrderLine a))) e
    (λ s. let no : ⊥ = cc in no)
record_named l (UpdateStock a x) r same k e v h =
    not_customer _ _ k (in_layout_key l (UpdateStock a x) (row_at r (key.Stock a))) e (λ s. let no : ⊥ = cc in no)
record_named l (DeleteNewOrder a) r same k e v h =
    not_customer _ _ k (in_layout_key l (DeleteNewOrder a) (row_at r (key.NewOrder a))) e
    (λ s. let no : ⊥ = cc in no)

-- Records of customers that have kept their names
renamed_keep : (held : Name → Option theory.Mode) (u j : ℕ) (names names' : Names)
    → ((k : CustomerKey) → Owns held u j (governs (key.Customer k)) → names' k ≡ names k) → (bs : List Record)
    → AreOwned held u j bs → KeepNames names bs → KeepNames names' bs
renamed_keep held u j names names' same [] own keep = tt
renamed_keep held u j names names' same (b ∷ bs) own keep = (
  λ k e v h.
      let is : names' k ≡ names k = same k (subst (λ q. Owns held u j (governs q)) e own.0) in
      keep.0 k e v (h ∙ is) ∙ sym is,
  renamed_keep held u j names names' same bs own.2 keep.1,
)

other_row : (c : Bool) (q p : Key) → is_key q p ≡ c → (q ≡ p → ⊥) → (v w : Option Row) → cond c w v ≡ v
other_row true q p e never v w = absurd (never (key_true q p e))
other_row false q p e never v w = refl

unwind_other : (q : Key) (bs : List Record) (r : Rows) → HaveNone q bs → row_at (unwind system bs r) q ≡ row_at r q
unwind_other q [] r none = refl
unwind_other q (b ∷ bs) r none =
    unwind_other q bs (put_back b r) none.1 ∙ at_put_back b r q
    ∙ other_row (is_key q (record_key b)) q (record_key b) refl (λ e. none.0 (sym e)) (row_at r q)
    (restore b (row_at r q))

first_none : (q : Key) (n : ℕ) (bs : List Record) → HaveNone q bs → HaveNone q (take n bs)
first_none q zero bs h = tt
first_none q (suc n) [] h = tt
first_none q (suc n) (b ∷ bs) h = (h.0, first_none q n bs h.1)

-- An engine in which nothing has begun
pub named_first : (r : Rows) (n : ℕ) (l : Layout) (a : Renames) → AreNamed (opened_view r n l) a
named_first r n l a = record {
  names = name_at r;
  now = λ k. refl;
  active = λ t free. tt;
  commits = λ free. none_keep (name_at r) (newest (opened_view r n l) - a.since);
}

pub named_begun : (t : ℕ) (v : View) (a : Renames) → AreNamed v a → AreNamed (after_begin t v) a
named_begun t v a h = record { names = h.names; now = h.now; active = h.active; commits = h.commits }

-- locks have no part in it
pub named_locked : (ts : tables.Places) (u : undo.SegmentLog) (ls ls' : Holdings) (a : Renames)
    → AreNamed (view_from ts u ls) a → AreNamed (view_from ts u ls') a
unfolding view_from
named_locked ts u ls ls' a h = record { names = h.names; now = h.now; active = h.active; commits = h.commits }

-- who may be renaming may be so behind a write
noted_before : (w : Write) (t : ℕ) (a b : Renames) → Notes w t a b → (u : ℕ) → has b.open u ≡ false
    → has a.open u ≡ false
noted_before w t a b n u free = go (is_rename w) (cases_eq u t) refl
  where
    go : (r : Bool) → (u ≡ t) ⊎ (u ≢ t) → is_rename w ≡ r → has a.open u ≡ false
    go true (inl e) is = absurd (true≢false (sym (n.own is) ∙ subst (λ k. has b.open k ≡ false) e free))
    go false (inl e) is = ap (λ (x : Renames). has x.open u) (sym (n.kept is)) ∙ free
    go r (inr ne) is = sym (n.others u ne) ∙ free

-- more may be known to be renaming
pub named_noted : (w : Write) (t : ℕ) (v : View) (a b : Renames) → Notes w t a b → AreNamed v a → AreNamed v b
named_noted w t v a b n h = record {
  names = h.names;
  now = h.now;
  active = λ u free. h.active u (noted_before w t a b n u free);
  commits = λ free. subst (λ m. AllKeepNames h.names (take (newest v - m) v.undo.history)) (sym n.since)
      (h.commits (λ u. noted_before w t a b n u (free u)));
}

-- a write was made
module _ (t : ℕ) (c : Change) (v : View) (a : Renames) (h : AreNamed v a) where
  named_kept : SameName c v.rows → AreNamed (after_change t c v) a
  named_kept same = record {
    names = h.names;
    now = λ k. changed_named c v.rows same k ∙ h.now k;
    active = at_each (λ u bs. has a.open u ≡ false → KeepNames h.names bs) t
        (record_on system v.layout c v.rows ∷ v.undo.active t) v.undo.active
        (λ free. (
          subst (λ f. KeepsName f (record_on system v.layout c v.rows)) (fun_ext h.now)
              (record_named v.layout c v.rows same),
          h.active t free,
        )) (λ u ne. h.active u);
    commits = h.commits;
  }

  named_renamed : MayMake (v.held t) t (suc (v.counts t)) c → IsSafe v → has a.open t ≡ true
      → AreNamed (after_change t c v) a
  named_renamed may s own = record {
    names = name_at (rows_after c v.rows);
    now = λ k. refl;
    active = at_each (λ u bs. has a.open u ≡ false → KeepNames (name_at (rows_after c v.rows)) bs) t
        (record_on system v.layout c v.rows ∷ v.undo.active t) v.undo.active
        (λ free. absurd (true≢false (sym own ∙ free))) (λ u ne free.
        renamed_keep (v.held u) u (suc (v.counts u)) h.names (name_at (rows_after c v.rows))
        (λ k owned. ap name_in (at_changed c v.rows (key.Customer k)
        ∙ other_row (is_key (key.Customer k) (key_of c)) (key.Customer k) (key_of c) refl
        (λ e. two_owners v s t u (suc (v.counts t)) (suc (v.counts u)) ne (governs (key_of c)) may.0
        (subst (λ q. Owns (v.held u) u (suc (v.counts u)) (governs q)) e owned))
        (row_at v.rows (key.Customer k)) (row_of c)) ∙ h.now k)
        (v.undo.active u) (s.owned u) (h.active u free));
    commits = λ free. absurd (true≢false (sym own ∙ free t));
  }

pub named_made : (w : Write) (t : ℕ) (c : Change) (v : View) (a b : Renames) → change_of w v.rows ≡ Some c
    → MayMake (v.held t) t (suc (v.counts t)) c → IsSafe v → Notes w t a b → AreNamed v a
    → AreNamed (after_change t c v) b
named_made w t c v a b found may s n h = go (is_rename w) refl
  where
    go : (r : Bool) → is_rename w ≡ r → AreNamed (after_change t c v) b
    go true e = named_renamed t c v b (named_noted w t v a b n h) may s (n.own e)
    go false e = named_kept t c v b (named_noted w t v a b n h) (same_name w v.rows c e found)

-- records of a transaction were put back: what others have changed has its names
module _ (t : ℕ) (n : ℕ) (v : View) (a : Renames) (s : IsSafe v) (h : AreNamed v a) where
  abbrev back : Rows
  back = unwind system (take n (v.undo.active t)) v.rows

  abbrev others_keep : (Names) → Type 0
  others_keep names = (u : ℕ) → u ≢ t → has a.open u ≡ false → KeepNames names (v.undo.active u)

  others_named : others_keep (name_at back)
  others_named u ne free =
      renamed_keep (v.held u) u (suc (v.counts u)) h.names (name_at back)
      (λ k owned. ap name_in (unwind_other (key.Customer k) (take n (v.undo.active t)) v.rows
      (first_none (key.Customer k) n (v.undo.active t)
      (has_none v s u (key.Customer k) owned t (λ e. ne (sym e)) (v.undo.active t) (s.owned t)))) ∙ h.now k)
      (v.undo.active u) (s.owned u) (h.active u free)

  still_named : has a.open t ≡ false → (k : CustomerKey) → name_at back k ≡ h.names k
  still_named free =
      unwind_named h.names (take n (v.undo.active t)) v.rows (first_keep h.names n (v.undo.active t) (h.active t free))
      h.now

pub named_back : (t mark : ℕ) (v : View) (a : Renames) → IsSafe v → AreNamed v a → AreNamed (back_at t mark v) a
named_back t mark v a s h = go (has a.open t) refl
  where
    go : (b : Bool) → has a.open t ≡ b → AreNamed (back_at t mark v) a
    go true own = record {
      names = name_at (back t (count_since v t mark) v a s h);
      now = λ k. refl;
      active = at_each (λ u bs. has a.open u ≡ false → KeepNames (name_at (back t (count_since v t mark) v a s h)) bs) t
          (drop (count_since v t mark) (v.undo.active t)) v.undo.active (λ free. absurd (true≢false (sym own ∙ free)))
          (others_named t (count_since v t mark) v a s h);
      commits = λ free. absurd (true≢false (sym own ∙ free t));
    }
    go false free = record {
      names = h.names;
      now = still_named t (count_since v t mark) v a s h free;
      active = at_each (λ u bs. has a.open u ≡ false → KeepNames h.names bs) t
          (drop (count_since v t mark) (v.undo.active t)) v.undo.active
          (λ _. last_keep h.names (count_since v t mark) (v.undo.active t) (h.active t free)) (λ u ne. h.active u);
      commits = h.commits;
    }

-- no commit is later than the newest moment
after_newest : (names : Names) (n m : ℕ) (ss : List (List Record)) → m ≡ n → AllKeepNames names (take (n - m) ss)
after_newest names n m ss e = fewer_keep names (n - m) 0 ss (omega (arith, e)) tt

module _ (t : ℕ) (v : View) (a b : Renames) where
  -- whoever may be renaming beside a terminal whose transaction has ended
  free_before : {m : ℕ} → Forgets t m a b → has a.open t ≡ false → ((u : ℕ) → has b.open u ≡ false) → (u : ℕ)
      → has a.open u ≡ false
  free_before f own free u = go (cases_eq u t)
    where
      go : (u ≡ t) ⊎ (u ≢ t) → has a.open u ≡ false
      go (inl e) = subst (λ k. has a.open k ≡ false) (sym e) own
      go (inr ne) = sym (f.others u ne) ∙ free u

  named_committed : (q : Request) (y : Reply) → t < terminal_limit → Forgets t (suc (newest v)) a b
      → AreNamed v a → AreNamed (after_commit t q y v) b
  named_committed q y within f h = record {
    names = h.names;
    now = h.now;
    active = at_each (λ u bs. has b.open u ≡ false → KeepNames h.names bs) t [] v.undo.active (λ free. tt)
        (λ u ne free. h.active u (sym (f.others u ne) ∙ free));
    commits = λ free. go free (has a.open t) refl;
  }
    where
      more : newest (after_commit t q y v) ≡ suc (newest v)
      more = total_bump terminal_limit t v.counts within

      go : ((u : ℕ) → has b.open u ≡ false) → (c : Bool) → has a.open t ≡ c
          → AllKeepNames h.names (take (newest (after_commit t q y v) - b.since) (v.undo.active t ∷ v.undo.history))
      go free true own =
          after_newest h.names (newest (after_commit t q y v)) b.since (v.undo.active t ∷ v.undo.history)
          (f.moved own ∙ sym more)
      go free false own =
          subst (λ n. AllKeepNames h.names (take (n - b.since) (v.undo.active t ∷ v.undo.history))) (sym more)
          (subst (λ m. AllKeepNames h.names (take (suc (newest v) - m) (v.undo.active t ∷ v.undo.history)))
          (sym (f.kept own))
          (sealed_keep h.names (newest v) a.since (v.undo.active t) v.undo.history (h.active t own)
          (h.commits (free_before f own free))))

  named_rolled_back : IsSafe v → Forgets t (newest v) a b → AreNamed v a → AreNamed (after_rollback t v) b
  named_rolled_back s f h = go (has a.open t) refl
    where
      all : take (length (v.undo.active t)) (v.undo.active t) ≡ v.undo.active t
      all = take_all (length (v.undo.active t)) (v.undo.active t) (omega arith)

      go : (c : Bool) → has a.open t ≡ c → AreNamed (after_rollback t v) b
      go true own = record {
        names = name_at (unwind system (v.undo.active t) v.rows);
        now = λ k. refl;
        active = at_each (λ u bs. has b.open u ≡ false
            → KeepNames (name_at (unwind system (v.undo.active t) v.rows)) bs) t [] v.undo.active (λ free. tt)
            (λ u ne free.
            subst (λ bs. KeepNames (name_at (unwind system bs v.rows)) (v.undo.active u)) all
            (others_named t (length (v.undo.active t)) v a s h u ne (sym (f.others u ne) ∙ free)));
        commits = λ free. after_newest (name_at (unwind system (v.undo.active t) v.rows)) (newest v) b.since
            v.undo.history (f.moved own);
      }
      go false own = record {
        names = h.names;
        now = unwind_named h.names (v.undo.active t) v.rows (h.active t own) h.now;
        active = at_each (λ u bs. has b.open u ≡ false → KeepNames h.names bs) t [] v.undo.active (λ free. tt)
            (λ u ne free. h.active u (sym (f.others u ne) ∙ free));
        commits = λ free. subst (λ m. AllKeepNames h.names (take (newest v - m) v.undo.history)) (sym (f.kept own))
            (h.commits (free_before f own free));
      }

-- the same of what the calls leave
pub commit_named : (t k m : ℕ) (v w : View) (a b : Renames) (q : Request) (y : Reply) → w ≡ after_commit t q y v → k ≡ t
    → t < terminal_limit → m ≡ suc (newest v) → Forgets k m a b → AreNamed v a → AreNamed w b
commit_named t k m v w a b q y is own within newest_is f h =
    subst (λ z. AreNamed z b) (sym is)
    (named_committed t v a b q y within (subst (λ n. Forgets t n a b) newest_is (subst (λ u. Forgets u m a b) own f)) h)

pub rollback_named : (t k m : ℕ) (v w : View) (a b : Renames) → w ≡ after_rollback t v → IsSafe v → k ≡ t → m ≡ newest w
    → Forgets k m a b → AreNamed v a → AreNamed w b
rollback_named t k m v w a b is safe own newest_is f h =
    subst (λ z. AreNamed z b) (sym is)
    (named_rolled_back t v a b safe
    (subst (λ n. Forgets t n a b) (newest_is ∙ ap newest is) (subst (λ u. Forgets u m a b) own f)) h)

pub named_purged : (m : ℕ) (v : View) (a : Renames) → AreNamed v a → AreNamed (after_purge m v) a
named_purged m v a h = record {
  names = h.names;
  now = h.now;
  active = h.active;
  commits = λ free. kept_keep h.names (newest v - a.since) (newest v - m) v.undo.history (h.commits free);
}

pub named_rewound : (m : ℕ) (v : View) (a : Renames) → ((t : ℕ) → v.undo.active t ≡ [])
    → a.since ≡ newest (after_rewind m v) → AreNamed (after_rewind m v) a
named_rewound m v a empty is = record {
  names = name_at (after_rewind m v).rows;
  now = λ k. refl;
  active = λ t free. subst (KeepNames (name_at (after_rewind m v).rows)) (sym (empty t)) tt;
  commits = λ free. after_newest (name_at (after_rewind m v).rows) (newest (after_rewind m v)) a.since
      (after_rewind m v).undo.history is;
}

-- so customers had their names at a moment
pub names_stood : (ts : tables.Places) (u : undo.SegmentLog) (ls : Holdings) (a : Renames) (m : ℕ)
    → AreNamed (view_from ts u ls) a → HasStood a m
    → HaveSameNames (version_of system (store_with (rows ts) u (λ t. None)) m) (rows ts)
unfolding view_from
names_stood ts u ls a m h stood k =
    let v : View = view_from ts u ls in
    let low : a.since ≤ m = stood.since in
    let fewer : newest v - m ≤ newest v - a.since = omega (arith, low) in
    commits_named h.names (take (newest v - m) v.undo.history)
    (unwind_open system v.undo.active (all_below system terminal_limit) v.rows)
    (fewer_keep h.names (newest v - m) (newest v - a.since) v.undo.history fewer (h.commits stood.none))
    (open_named h.names v.undo.active (all_below system terminal_limit) v.rows (λ t. h.active t (stood.none t)) h.now) k
    ∙ sym (h.now k)
