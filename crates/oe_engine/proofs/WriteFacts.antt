-- A write is a change of the row that is there: of which key, who may make it, and what becomes of it.
use Rattle.std.proofs.Common.{◌≡◌, ◌+◌, ◌≤◌, refl, sym, ap, ◌∙◌, subst, suc, ℕ, Option, None, Some, arith, rules}
use Rattle.std.specs.Prelude.{Ok, Err, IsSome, option_map, option_and_then}
use Rattle.std.specs.Option.{IsSomeAnd}
use Rattle.std.specs.FinMap.{get}
use Rattle.oe_theory.specs.Machine.{Ask, Plain, Take, Stop}
use Rattle.oe_theory.specs.Machine as theory
use Rattle.oe_theory.proofs.Sets.{some_inj}
use Rattle.oe_rows.specs.declared.keys.Key.{Key}
use Rattle.oe_rows.specs.declared.locks.Name.{Name}
use Rattle.oe_requests.specs.declared.refusals.Refusal.{Refusal}
use Rattle.oe_requests.specs.declared.refusals.Refusal.TheVariants.{NoSuchRow, UndoFull, NoMemory}
use Rattle.oe_rows.specs.declared.orders.NewOrder.{NewOrder}
use Rattle.oe_rows.specs.declared.rows.Row.TheVariants as row
use Rattle.oe_theory.specs.Next.{held_after, record_on}
use Rattle.oe_theory.specs.World.{set}
use Rattle.oe_rows.specs.declared.layouts.Layout.{Layout}
use Rattle.oe_model.specs.Rows.{Rows, as_new_order}
use Rattle.oe_model.specs.Changes.{Change, key_of, Record, InsertedHistory, InsertedNewOrder, InsertedOrder}
use Rattle.oe_model.specs.Changes.{InsertedOrderLine, DeletedNewOrder}
use Rattle.oe_model.specs.Lengths.{record_length}
use Rattle.oe_model.specs.Locks.{governs}
use Rattle.oe_model.specs.Meets.{Accepts}
use Rattle.oe_model.specs.System.{system}
use Rattle.oe_change.specs.declared.writes.Write.{Write}
use Rattle.oe_change.specs.declared.writes.Write.TheVariants.{WarehouseYtd, DistrictYtd, NextOrder, CustomerAccount}
use Rattle.oe_change.specs.declared.writes.Write.TheVariants.{BadCredit, CustomerNames, StockCounters, Carrier}
use Rattle.oe_change.specs.declared.writes.Write.TheVariants.{DeliveryDate}
use Rattle.oe_change.specs.declared.writes.Write.TheVariants.{InsertHistory, InsertNewOrder, InsertOrder}
use Rattle.oe_change.specs.declared.writes.Write.TheVariants.{InsertOrderLine, DeleteNewOrder}
use Rattle.oe_change.specs.Writes.{key_written, change_of}
use Rattle.oe_store.specs.Places.{Places, rows}
use Rattle.oe_change.specs.Applies.{Refuses, IsFirst}
use Rattle.oe_log.specs.Log.{IsFull, SegmentLog}
use Rattle.oe_writes.specs.Records.{record_of_write}
use Rattle.oe_journal.specs.Recorded.{CantWrite, Absent, Full, Refused}
use Rattle.oe_writes.proofs.RecordFacts.{recorded, update, history_in, new_order_in, order_in, order_line_in}
use Rattle.oe_writes.proofs.RecordFacts.{deleted_in}
use Rattle.oe_engine.specs.View.{EngineState, View, view_from, view_of, Handle, IsOpen}
use Rattle.oe_engine.specs.Covered.{Owns, HoldsOrder, MayMake, IsOwn}
use Rattle.oe_engine.specs.Calls.{IsFree, IsFullFor, with_ask, after_change, ChangeRefused, StageRefused}
use Rattle.oe_writes.specs.Asks.{ask_of_write}
use Rattle.oe_engine.specs.Writes.{change_written, HoldsBeside, MayWrite, AbsentRowRefused, WantsRow}
use Rattle.oe_engine.specs.Writes.{IsMade, Writes}
use Rattle.oe_engine.proofs.LockFacts.{set_own, set_at}
use Rattle.oe_engine.proofs.SafeFacts.{owns_to_write}
use Rattle.oe_engine.proofs.PartFacts.{refused_so, change_done}

-- what holds of the change that is there
module _ (P : Change → Type 0) where
  pub at_change : (o : Option Change) → IsSomeAnd o P → (c : Change) × (o ≡ Some c) × P c
  at_change (Some c) h = (c, refl, h)
  at_change None h = absurd h

  pub of_change : (o : Option Change) (c : Change) → o ≡ Some c → IsSomeAnd o P → P c
  of_change o c e h = subst (λ x. IsSomeAnd x P) e h

  of_row : {A : Type 0} (f : A → Change) (o : Option A) (c : Change) → ((x : A) → P (f x)) → option_map f o ≡ Some c
      → P c
  of_row f None c h e = cc
  of_row f (Some x) c h e = subst P (some_inj (f x) c e) (h x)

  of_this : (d c : Change) → P d → Some d ≡ Some c → P c
  of_this d c h e = subst P (some_inj d c e) h

-- a change at the write's key, of an order whose name the write's transaction holds
abbrev IsOf : Rows → (Name → Option theory.Mode) → Write → Change → Type 0
IsOf r held w c = (key_of c ≡ key_written w) × (HoldsBeside r held w → HoldsOrder held c)

is_of : (held : Name → Option theory.Mode) (w : Write) (r : Rows) (c : Change) → change_of w r ≡ Some c
    → IsOf r held w c
is_of held (WarehouseYtd k y) r c e = of_row (IsOf r held (WarehouseYtd k y)) _ (get r.warehouses k) c
    (λ x. (refl, λ h. tt)) e
is_of held (DistrictYtd k y) r c e = of_row (IsOf r held (DistrictYtd k y)) _ (get r.districts k) c
    (λ x. (refl, λ h. tt)) e
is_of held (NextOrder k n) r c e = of_row (IsOf r held (NextOrder k n)) _ (get r.districts k) c (λ x. (refl, λ h. tt)) e
is_of held (CustomerAccount k a) r c e = of_row (IsOf r held (CustomerAccount k a)) _ (get r.customers k) c
    (λ x. (refl, λ h. tt)) e
is_of held (BadCredit k a t) r c e = of_row (IsOf r held (BadCredit k a t)) _ (get r.customers k) c
    (λ x. (refl, λ h. tt)) e
is_of held (CustomerNames k n m) r c e = of_row (IsOf r held (CustomerNames k n m)) _ (get r.customers k) c
    (λ x. (refl, λ h. tt)) e
is_of held (StockCounters k n) r c e = of_row (IsOf r held (StockCounters k n)) _ (get r.stocks k) c
    (λ x. (refl, λ h. tt)) e
is_of held (Carrier k n) r c e = of_row (IsOf r held (Carrier k n)) _ (get r.orders k) c (λ x. (refl, λ h. tt)) e
is_of held (DeliveryDate k t) r c e = of_row (IsOf r held (DeliveryDate k t)) _ (get r.order_lines k) c
    (λ x. (refl, λ h. tt)) e
is_of held (InsertHistory k x) r c e = of_this (IsOf r held (InsertHistory k x)) _ c (refl, λ h. tt) e
is_of held (InsertNewOrder k) r c e = of_this (IsOf r held (InsertNewOrder k)) _ c (refl, λ h. h) e
is_of held (InsertOrder k x) r c e = of_this (IsOf r held (InsertOrder k x)) _ c (refl, λ h. tt) e
is_of held (InsertOrderLine k x) r c e = of_this (IsOf r held (InsertOrderLine k x)) _ c (refl, λ h. tt) e
is_of held (DeleteNewOrder k) r c e = of_this (IsOf r held (DeleteNewOrder k)) _ c (refl, λ h. tt) e

-- so a transaction that may make the write may make the change
pub may_make : (held : Name → Option theory.Mode) (t k : ℕ) (w : Write) (r : Rows) (c : Change) → change_of w r ≡ Some c
    → MayWrite r held t k w → MayMake held t k c
may_make held t k w r c e may =
    let (same, holds) = is_of held w r c e in
    (subst (λ j. Owns held t k (governs j)) (sym same) may.0, holds may.1)

-- it may make the write once its name was taken
beside_still : (v : View) (t : ℕ) (w : Write) → HoldsBeside v.rows (v.held t) w
    → HoldsBeside v.rows (held_after system (ask_of_write w) (v.held t)) w
beside_still v t (InsertNewOrder k) h = h
beside_still v t (WarehouseYtd k y) h = tt
beside_still v t (DistrictYtd k y) h = tt
beside_still v t (NextOrder k n) h = tt
beside_still v t (CustomerAccount k a) h = tt
beside_still v t (BadCredit k a e) h = tt
beside_still v t (CustomerNames k n m) h = h
beside_still v t (StockCounters k n) h = tt
beside_still v t (Carrier k n) h = tt
beside_still v t (DeliveryDate k d) h = tt
beside_still v t (InsertHistory k x) h = tt
beside_still v t (InsertOrder k x) h = tt
beside_still v t (InsertOrderLine k x) h = tt
beside_still v t (DeleteNewOrder k) h = tt

pub may_write : (v : View) (t : ℕ) (w : Write) → IsOwn t (suc (v.counts t)) (governs (key_written w))
    → HoldsBeside v.rows (v.held t) w
    → MayWrite v.rows (held_after system (ask_of_write w) (v.held t)) t (suc (v.counts t)) w
may_write v t w own order =
    (owns_to_write v t (suc (v.counts t)) (governs (key_written w)) own, beside_still v t w order)

-- a transaction holds what it holds
held_still : (t : ℕ) (v : View) → v ≡ record v { held = set t (v.held t) v.held }
held_still t v = λ i. record {
  rows = v.rows;
  undo = v.undo;
  seals = v.seals;
  counts = v.counts;
  held = sym (set_own t v.held) i;
  is_open = v.is_open;
  extents = v.extents;
  layout = v.layout;
}

-- with what is asked for it holds what the theory says
asked_is : (t : ℕ) (a : Ask Name Refusal) (v : View)
    → with_ask t a v ≡ record v { held = set t (held_after system a (v.held t)) v.held }
asked_is t (Take n m) v = refl
asked_is t Plain v = held_still t v
asked_is t (Stop e) v = held_still t v

-- so it may make the write where the names held are these
pub may_after : (t : ℕ) (a : Ask Name Refusal) (w : Write) (v v' : View) → v' ≡ with_ask t a v
    → MayWrite v.rows (held_after system a (v.held t)) t (suc (v.counts t)) w
    → MayWrite v'.rows (v'.held t) t (suc (v'.counts t)) w
may_after t a w v v' asked h =
    subst (λ (z : View). MayWrite z.rows (z.held t) t (suc (z.counts t)) w) (sym (asked ∙ asked_is t a v))
    (subst (λ held. MayWrite v.rows held t (suc (v.counts t)) w)
    (sym (set_at t (held_after system a (v.held t)) v.held)) h)

-- and its transaction is open still
pub still_open : (s s₁ : EngineState) (x : Handle) (a : Ask Name Refusal) → IsOpen s x
    → view_of s₁ ≡ with_ask x.terminal a (view_of s) → s₁.name ≡ s.name → IsOpen s₁ x
still_open s s₁ x a o asked same = record {
  engine = o.engine ∙ sym same;
  terminal = ap (λ (v : View). v.is_open x.terminal) (asked ∙ asked_is x.terminal a (view_of s)) ∙ o.terminal;
}

-- ---- why it is refused

-- what two values have that are of one write
of_these : {D B : Type 0} (P : D → B → Type 0) (d c : D) (a b : B) → P d a → Some d ≡ Some c → Some a ≡ Some b → P c b
of_these P d c a b h e i = subst (λ z. P c z) (some_inj a b i) (subst (λ z. P z a) (some_inj d c e) h)

no_less : (n : ℕ) → n ≤ n
no_less n = omega arith

more_than : (n m : ℕ) → n + 0 ≤ n + m
more_than n m = omega arith

-- the record that is pushed is no longer than that of the change
abbrev IsNoLonger : Layout → Rows → Change → Record → Type 0
IsNoLonger l r c b = record_length b ≤ record_length (record_on system l c r)

-- of an update it is that record
as_long : (l : Layout) (r : Rows) (o : Option Change) (c : Change) (b : Record) → o ≡ Some c
    → option_map (λ d. record_on system l d r) o ≡ Some b → IsNoLonger l r c b
as_long l r o c b e i =
    subst (λ z. record_length z ≤ record_length (record_on system l c r)) (some_inj _ _ (sym (update l r o c e) ∙ i))
    (no_less _)

no_longer : (l : Layout) (w : Write) (r : Rows) (c : Change) (b : Record) → change_of w r ≡ Some c
    → record_of_write l w r ≡ Some b → IsNoLonger l r c b
no_longer l (WarehouseYtd k y) r c b = as_long l r _ c b
no_longer l (DistrictYtd k y) r c b = as_long l r _ c b
no_longer l (NextOrder k n) r c b = as_long l r _ c b
no_longer l (CustomerAccount k a) r c b = as_long l r _ c b
no_longer l (BadCredit k a t) r c b = as_long l r _ c b
no_longer l (CustomerNames k n m) r c b = as_long l r _ c b
no_longer l (StockCounters k n) r c b = as_long l r _ c b
no_longer l (Carrier k n) r c b = as_long l r _ c b
no_longer l (DeliveryDate k t) r c b = as_long l r _ c b
no_longer l (InsertHistory k x) r c b = of_these (IsNoLonger l r) _ c _ b
    (subst (λ z. record_length (InsertedHistory k None) ≤ record_length z)
    (history_in l (option_map row.History (get r.histories k)) k x) (more_than _ _))
no_longer l (InsertNewOrder k) r c b = of_these (IsNoLonger l r) _ c _ b
    (subst (λ z. record_length (InsertedNewOrder k None) ≤ record_length z)
    (new_order_in l (option_map row.NewOrder (get r.new_orders k)) k (record {})) (more_than _ _))
no_longer l (InsertOrder k x) r c b = of_these (IsNoLonger l r) _ c _ b
    (subst (λ z. record_length (InsertedOrder k None) ≤ record_length z)
    (order_in l (option_map row.Order (get r.orders k)) k x) (more_than _ _))
no_longer l (InsertOrderLine k x) r c b = of_these (IsNoLonger l r) _ c _ b
    (subst (λ z. record_length (InsertedOrderLine k None) ≤ record_length z)
    (order_line_in l (option_map row.OrderLine (get r.order_lines k)) k x) (more_than _ _))
no_longer l (DeleteNewOrder k) r c b = of_these (IsNoLonger l r) _ c _ b
    (subst (λ z. record_length (DeletedNewOrder k (Some (record {}))) ≤ record_length z)
    (deleted_in l (option_map row.NewOrder (get r.new_orders k)) k)
    (deleted_as_long (option_and_then as_new_order (option_map row.NewOrder (get r.new_orders k)))))
  where
    deleted_as_long : (v : Option NewOrder) → record_length (DeletedNewOrder k (Some (record {}))) ≤ record_length
        (DeletedNewOrder k v)
    deleted_as_long None = no_less _
    deleted_as_long (Some x) = no_less _

-- the record has no room
full_as : (u : SegmentLog) (t m n : ℕ) → m ≤ n → IsFull u t m → IsFull u t n
full_as u t m n h f = (omega (arith, h, f.0), f.1)

module _ (w : Write) (s : Places) (u : SegmentLog) (t : ℕ) where
  full_write : (c : Change) → change_of w (rows s) ≡ Some c → (o : Option Record)
      → record_of_write u.layout w (rows s) ≡ o
      → IsSomeAnd o (λ b. IsFull u t (record_length b))
      → IsFull u t (record_length (record_on system u.layout c (rows s)))
  full_write c found None e h = absurd h
  full_write c found (Some b) e h = full_as u t (record_length b)
      (record_length (record_on system u.layout c (rows s)))
      (no_longer u.layout w (rows s) c b found e) h

  -- where there is a record, the row is there
  pub refused_written : (c : Change) (e : Refusal) → change_of w (rows s) ≡ Some c → CantWrite w s u t e
      → ChangeRefused c (rows s) e
  refused_written c _ found (Absent a) = let no : ◌≡◌ {A = Option Change} None (Some c) = sym a ∙ found in cc
  refused_written c _ found (Full h) = tt
  refused_written c e found (Refused _ room h) =
      refused_so c s e (of_change (λ d. Refuses d s e × IsFirst d (rows s) e) _ c found h).0

  pub refused_full : (c : Change) (e : Refusal) → change_of w (rows s) ≡ Some c → CantWrite w s u t e → e ≡ UndoFull
      → IsFull u t (record_length (record_on system u.layout c (rows s)))
  refused_full c _ found (Absent a) same = let no : ◌≡◌ {A = Option Change} None (Some c) = sym a ∙ found in cc
  refused_full c _ found (Full h) same = full_write c found _ refl h
  refused_full c e found (Refused _ room h) same =
      absurd (never_full c (subst (λ z. Refuses c s z) same
      (of_change (λ d. Refuses d s e × IsFirst d (rows s) e) _ c found h).0))
    where
      never_full : (d : Change) → Refuses d s UndoFull → ⊥
      never_full d h = h

  pub wants_row : (e : Refusal) → CantWrite w s u t e → e ≡ NoMemory → WantsRow (change_of w (rows s)) s
  wants_row _ (Absent a) same = let no : ⊥ = cc in absurd no
  wants_row _ (Full h) same = let no : ⊥ = cc in absurd no
  wants_row e (Refused _ room h) same = wants_here (change_of w (rows s)) h
    where
      wants_here : (o : Option Change) → IsSomeAnd o (λ d. Refuses d s e × IsFirst d (rows s) e) → WantsRow o s
      wants_here None k = absurd k
      wants_here (Some d) k = subst (Refuses d s) same k.0

-- a write whose row is absent has no record
none_recorded : (l : Layout) (P : Record → Type 0) (w : Write) (r : Rows) → change_of w r ≡ None
    → IsSomeAnd (record_of_write l w r) P → ⊥
none_recorded l P w r absent h = is_none (change_of w r) absent (recorded l w r (is_some_of (record_of_write l w r) h))
  where
    is_some_of : (o : Option Record) → IsSomeAnd o P → IsSome o
    is_some_of None h = absurd h
    is_some_of (Some b) h = refl

    is_none : (o : Option Change) → o ≡ None → IsSome o → ⊥
    is_none None e h = let no : ⊥ = cc in no
    is_none (Some c) e h = let no : ⊥ = cc in no

pub refused_absent : (w : Write) (s : Places) (u : SegmentLog) (t : ℕ) (e : Refusal) → change_of w (rows s) ≡ None
    → CantWrite w s u t e → e ≡ NoSuchRow (key_written w)
refused_absent w s u t _ absent (Absent a) = refl
refused_absent w s u t _ absent (Full h) = absurd (none_recorded u.layout _ w (rows s) absent h)
refused_absent w s u t e absent (Refused _ room h) = absurd (none_recorded u.layout _ w (rows s) absent room)

-- ---- what it is in the words of a stage

-- of a write without a lock
module _ (s : EngineState) (x : Handle) where
  pub change_refused : (c : Change) (e : Refusal) → IsOpen s x → ChangeRefused c (view_of s).rows e
      → StageRefused s x Plain (Some c) e
  change_refused c e o h = search rules

  pub row_absent : (k : Key) (e : Refusal) → IsOpen s x → e ≡ NoSuchRow k → AbsentRowRefused s x Plain k e
  row_absent k e o h = subst (AbsentRowRefused s x Plain k) (sym h) (o, tt, refl)

-- a write behind the lock that was taken for it
module _ (s s₁ s₂ : EngineState) (x : Handle) (a : Ask Name Refusal) (w : Write) (o : IsOpen s x)
    (free : IsFree (view_of s) x.terminal a) (asked : view_of s₁ ≡ with_ask x.terminal a (view_of s))
    (stored : s₁.tables ≡ s.tables) (same : s₁.name ≡ s.name) where
  taken : view_of s₁ ≡ record (view_of s) {
    held = set x.terminal (held_after system a ((view_of s).held x.terminal))
        (view_of s).held;
  }
  taken = asked ∙ asked_is x.terminal a (view_of s)

  now : IsOpen s₁ x
  now = still_open s s₁ x a o asked same

  same_rows : (view_of s₁).rows ≡ (view_of s).rows
  same_rows = ap (λ (v : View). v.rows) taken

  found_there : (c : Option Change) → change_written w (view_of s) ≡ c → change_written w (view_of s₁) ≡ c
  found_there c found = ap (change_of w) same_rows ∙ found

  made_there : (c : Change) → IsMade s₁ x Plain c s₂ → IsMade s x a c s₂
  made_there c h = record {
    is_open = o;
    free = free;
    accepted = subst (Accepts c) same_rows h.accepted;
    room = λ full. h.room (subst (λ v. IsFullFor v x.terminal c) (sym taken) full);
    done = h.done ∙ change_done x.terminal c (view_of s₁) ∙ ap (λ v. after_change x.terminal c v) taken;
  }

  pub made_behind : Writes s₁ x Plain w (Ok tt) s₂ → Writes s x a w (Ok tt) s₂
  made_behind h =
      let (c, found, is) = at_change _ _ h.made in
      record {
        made = subst (λ z. IsSomeAnd z (λ d. IsMade s x a d s₂))
            (sym (ap (change_of w) (sym same_rows) ∙ found))
            (made_there c is);
        cause = λ d _. tt;
        absent = λ _. tt;
        full = λ d _. tt;
        wants = λ _. tt;
        unchanged = tt;
      }

  cause_there : (c : Change) (e : Refusal) → StageRefused s₁ x Plain (Some c) e
      → StageRefused s x a (Some c) e
  cause_there c e h = let is = now in let there = same_rows in search (rules, is, there)

  absent_there : (k : Key) (e : Refusal) → AbsentRowRefused s₁ x Plain k e → AbsentRowRefused s x a k e
  absent_there k e h = let is = now in search (rules, is)

  pub refused_behind : (e : Refusal) (s' : EngineState) → Writes s₁ x Plain w (Err e) s₂ → view_of s' ≡ view_of s
      → Writes s x a w (Err e) s'
  unfolding view_of view_from
  refused_behind e s' h back = record {
    made = tt;
    cause = λ c found. cause_there c e (h.cause c (found_there (Some c) found));
    absent = λ none. absent_there (key_written w) e (h.absent (found_there None none));
    full = λ c found is. subst (λ v. IsFullFor v x.terminal c) taken (h.full c (found_there (Some c) found) is);
    wants = λ _ is. subst (λ ts. WantsRow (change_of w (rows ts)) ts) stored (h.wants (λ never. never) is);
    unchanged = back;
  }
