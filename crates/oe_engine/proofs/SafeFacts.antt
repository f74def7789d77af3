-- What holds of open work each move of an engine keeps.
use Rattle.std.proofs.Common.{◌≡◌, ◌≢◌, ℕ, zero, suc, Bool, true, false, cond, refl, sym, ap, ◌∙◌, subst, inl, inr, ◌⊎◌}
use Rattle.std.proofs.Common.{List, [], ◌∷◌, take, drop, Option, None, Some}
use Rattle.std.specs.Prelude.{IsSome, is_some, Result, Ok, Err, OnOk, OnErr}
use Rattle.std.proofs.lemmas.Bool.{cases_eq}
use Rattle.oe_rows.specs.declared.keys.Key.{Key}
use Rattle.oe_rows.specs.declared.keys.OrderKey.{OrderKey}
use Rattle.oe_rows.specs.declared.locks.Mode.{Mode}
use Rattle.oe_rows.specs.declared.locks.Name.{Name}
use Rattle.oe_rows.specs.declared.locks.Name.TheVariants as name
use Rattle.oe_requests.specs.declared.replies.Reply.{Reply}
use Rattle.oe_requests.specs.declared.requests.Request.{Request}
use Rattle.oe_theory.specs.Machine.{Guard, Free, Under, Own, Take}
use Rattle.oe_theory.specs.Machine as theory
use Rattle.oe_theory.specs.World.{set, greater_mode, go_together}
use Rattle.oe_theory.specs.Next.{held_after, record_on}
use Rattle.oe_theory.specs.Undo.{unwind}
use Rattle.oe_theory.proofs.Sets.{set_same, set_other}
use Rattle.oe_model.specs.Rows.{Rows, row_at}
use Rattle.oe_model.specs.Changes.{Change, InsertHistory, InsertNewOrder, InsertOrder, InsertOrderLine, UpdateWarehouse}
use Rattle.oe_model.specs.Changes.{UpdateDistrict, UpdateCustomer, UpdateOrder, UpdateOrderLine, UpdateStock}
use Rattle.oe_model.specs.Changes.{DeleteNewOrder, key_of, rows_after, Record, record_key, put_back}
use Rattle.oe_rows.specs.declared.layouts.Layout.{Layout}
use Rattle.oe_model.specs.Locks.{governs, is_name, mode_of}
use Rattle.oe_model.specs.Meets.{Meets, Accepts}
use Rattle.oe_model.specs.System.{system}
use Rattle.oe_model.proofs.RowFacts.{in_layout_key}
use Rattle.oe_model.proofs.PresenceFacts.{missing}
use Rattle.oe_model.proofs.SystemLaws as model
use Rattle.oe_store.specs.Places as tables
use Rattle.oe_log.specs.Log as undo
use Rattle.oe_log.specs.Stands.{model_records}
use Rattle.oe_undo.specs.Chains.{HaveNone, IsAlone}
use Rattle.oe_locks.specs.Held as locks
use Rattle.oe_locks.specs.Held.{Holdings}
use Rattle.oe_engine.specs.View.{View, view_from, opened_view}
use Rattle.oe_engine.specs.Covered.{Owns, AreOwned, OwnsParts, OwnAllParts, IsUnused, MayMake, IsOwn, IsSafe}
use Rattle.oe_journal.specs.GoesBack.{CanUnwind}
use Rattle.oe_writes.specs.Asks.{ask_to_write}
use Rattle.oe_engine.specs.Calls.{IsFree, IsBelow, after_begin, with_lock, after_change, put_mode, count_since, back_at}
use Rattle.oe_engine.specs.Calls.{after_commit, after_rollback}
use Rattle.oe_engine.proofs.PartFacts.{free_is, locked_is}
use Rattle.oe_engine.proofs.CoveredFacts.{RefersTo, AreApart, whole_made, made_unwinds, back_unwinds, can_go_back}
use Rattle.oe_engine.proofs.FacetFacts.{more_parts, less_parts, left_if_lower, made_parts, parts_under, AreOthers}
use Rattle.oe_engine.proofs.FacetFacts.{parts_unwound, parts_below}
use Rattle.oe_engine.proofs.CoveredFacts.{all_go_back, all_back, sealed_unwinds, none_unwinds}

-- what holds at a terminal that was replaced, and at each other
pub at_each : {A : Type 0} (P : ℕ → A → Type 0) (t : ℕ) (x : A) (f : ℕ → A) → P t x → ((u : ℕ) → u ≢ t → P u (f u))
    → (u : ℕ) → P u (set t x f u)
at_each P t x f own others u = go (cases_eq u t)
  where
    go : (u ≡ t) ⊎ (u ≢ t) → P u (set t x f u)
    go (inl e) = subst (P u) (sym (set_same t x f u e)) (subst (λ k. P k x) (sym e) own)
    go (inr ne) = subst (P u) (sym (set_other t x f u ne)) (others u ne)

-- the same of two terminals
at_pair : {A : Type 0} (P : ℕ → ℕ → A → A → Type 0) (t : ℕ) (x : A) (f : ℕ → A) → ((u : ℕ) → u ≢ t → P t u x (f u))
    → ((u : ℕ) → u ≢ t → P u t (f u) x)
    → ((u w : ℕ) → w ≢ u → P u w (f u) (f w)) → (u w : ℕ) → w ≢ u → P u w (set t x f u) (set t x f w)
at_pair {A} P t x f first second others u w ne = go (cases_eq u t) (cases_eq w t)
  where
    put : (a b : A) → set t x f u ≡ a → set t x f w ≡ b → P u w a b → P u w (set t x f u) (set t x f w)
    put a b e d h = subst (λ z. P u w z (set t x f w)) (sym e) (subst (P u w a) (sym d) h)

    go : (u ≡ t) ⊎ (u ≢ t) → (w ≡ t) ⊎ (w ≢ t) → P u w (set t x f u) (set t x f w)
    go (inl e) (inl d) = absurd (ne (d ∙ sym e))
    go (inl e) (inr d) = put x (f w) (set_same t x f u e) (set_other t x f w d)
        (subst (λ k. P k w x (f w)) (sym e) (first w d))
    go (inr e) (inl d) = put (f u) x (set_other t x f u e) (set_same t x f w d)
        (subst (λ k. P u k (f u) x) (sym d) (second u e))
    go (inr e) (inr d) = put (f u) (f w) (set_other t x f u e) (set_other t x f w d) (others u w ne)

-- no two transactions own rows under one guard
pub two_owners : (v : View) → IsSafe v → (t u j k : ℕ) → u ≢ t → (g : Guard Name) → Owns (v.held t) t j g
    → Owns (v.held u) u k g → ⊥
two_owners v s t u j k ne Free a b = a
two_owners v s t u j k ne (Under n) a b =
    let none : None ≡ Some theory.Exclusive = sym (s.alone t u n ne a) ∙ b in
    let no : ⊥ = cc in
    no
two_owners v s t u j k ne (Own x y) a b = ne (sym b.0 ∙ a.0)

-- the name of the order that a change's row refers to is held
order_held : (held : Name → Option theory.Mode) (t k : ℕ) (c : Change) → MayMake held t k c → (o : OrderKey)
    → RefersTo c o → IsSome (held (name.Order o))
order_held held t k (InsertNewOrder j x) m o e = subst (λ (z : OrderKey). IsSome (held (name.Order z))) (sym e) m.1
order_held held t k (InsertOrderLine j x) m o e = subst (λ (z : OrderKey). IsSome (held (name.Order z))) (sym e)
    (ap is_some m.0)
order_held held t k (InsertHistory j x) m o e = absurd e
order_held held t k (InsertOrder j x) m o e = absurd e
order_held held t k (UpdateWarehouse j x) m o e = absurd e
order_held held t k (UpdateDistrict j x) m o e = absurd e
order_held held t k (UpdateCustomer j x) m o e = absurd e
order_held held t k (UpdateOrder j x) m o e = absurd e
order_held held t k (UpdateOrderLine j x) m o e = absurd e
order_held held t k (UpdateStock j x) m o e = absurd e
order_held held t k (DeleteNewOrder j) m o e = absurd e

-- what others have changed is apart from a change
apart_all : (v : View) → IsSafe v → (t : ℕ) (c : Change) → MayMake (v.held t) t (suc (v.counts t)) c → (u : ℕ) → u ≢ t
    → (bs : List Record)
    → AreOwned (v.held u) u (suc (v.counts u)) bs → AreApart c bs
apart_all v s t c m u ne [] h = tt
apart_all v s t c m u ne (b ∷ bs) h = (
  record {
    other = λ e. two_owners v s t u (suc (v.counts t)) (suc (v.counts u)) ne (governs (key_of c)) m.0
        (subst (λ k. Owns (v.held u) u (suc (v.counts u)) (governs k)) e h.0);
    order = λ o r e.
        missing (v.held t (name.Order o)) (order_held (v.held t) t (suc (v.counts t)) c m o r)
        (s.alone u t (name.Order o) (λ q. ne (sym q))
        (subst (λ k. Owns (v.held u) u (suc (v.counts u)) (governs k)) e h.0));
    whole = h.1;
  },
  apart_all v s t c m u ne bs h.2,
)

-- no other transaction has a record of a key that one owns
pub has_none : (v : View) → IsSafe v → (t : ℕ) (k : Key) → Owns (v.held t) t (suc (v.counts t)) (governs k) → (u : ℕ)
    → u ≢ t → (bs : List Record)
    → AreOwned (v.held u) u (suc (v.counts u)) bs → HaveNone k bs
has_none v s t k own u ne [] h = tt
has_none v s t k own u ne (b ∷ bs) h = (
  λ e. two_owners v s t u (suc (v.counts t)) (suc (v.counts u)) ne (governs k) own
      (subst (λ j. Owns (v.held u) u (suc (v.counts u)) (governs j)) e h.0),
  has_none v s t k own u ne bs h.2,
)

pub is_alone : (ts : tables.Places) (u : undo.SegmentLog) (ls : Holdings) (t : ℕ) (k : Key) → IsSafe (view_from ts u ls)
    → Owns ((view_from ts u ls).held t) t (suc ((view_from ts u ls).counts t)) (governs k) → IsAlone u t k
unfolding view_from
is_alone ts u ls t k s own x ne = has_none (view_from ts u ls) s t k own x ne (model_records (undo.records_at u x))
    (s.owned x)

-- an engine in which nothing has begun
pub safe_first : (r : Rows) (n : ℕ) (l : Layout) → Meets r → IsSafe (opened_view r n l)
safe_first r n l m = record {
  owned = λ t. tt;
  parts = λ t. tt;
  alone = λ t u q ne e. refl;
  unwinds = λ ts. none_unwinds [] ts r m tt;
}

pub safe_begun : (t : ℕ) (v : View) → IsSafe v → IsSafe (after_begin t v)
safe_begun t v s = record { owned = s.owned; parts = s.parts; alone = s.alone; unwinds = s.unwinds }

-- a change was made and recorded
pub safe_made : (t : ℕ) (c : Change) (v : View) → Accepts c v.rows → MayMake (v.held t) t (suc (v.counts t)) c
    → OwnsParts (v.held t) v.rows (rows_after c v.rows) → IsSafe v → IsSafe (after_change t c v)
safe_made t c v a m holds s =
    let key = in_layout_key v.layout c (row_at v.rows (key_of c)) in
    let own : Owns (v.held t) t (suc (v.counts t)) (governs (record_key (record_on system v.layout c v.rows))) =
    subst (λ k. Owns (v.held t) t (suc (v.counts t)) (governs k)) (sym key) m.0 in
    record {
      owned = at_each (λ u bs. AreOwned (v.held u) u (suc (v.counts u)) bs) t
          (record_on system v.layout c v.rows ∷ v.undo.active t) v.undo.active
          (own, whole_made v.layout c v.rows a, s.owned t) (λ u ne. s.owned u);
      parts = at_each (λ u bs. OwnAllParts (v.held u) bs (rows_after c v.rows)) t
          (record_on system v.layout c v.rows ∷ v.undo.active t) v.undo.active
          (made_parts (v.held t) v.layout c (v.undo.active t) v.rows holds (s.parts t))
          (λ u ne. parts_under (v.held u) c (v.undo.active u) v.rows
          (apart_all v s t c m u ne (v.undo.active u) (s.owned u)) (s.parts u));
      alone = s.alone;
      unwinds = λ ts. made_unwinds v.undo.history v.layout c t ts v.undo.active v.rows a
          (λ u ne. apart_all v s t c m u ne (v.undo.active u) (s.owned u)) s.unwinds;
    }

-- records stay owned where each name that is held exclusively is still held so
more_owned : (held now : Name → Option theory.Mode) (t k : ℕ)
    → ((n : Name) → held n ≡ Some theory.Exclusive → now n ≡ Some theory.Exclusive)
    → (bs : List Record) → AreOwned held t k bs → AreOwned now t k bs
more_owned held now t k more [] h = tt
more_owned held now t k more (b ∷ bs) h = (go (governs (record_key b)) h.0, h.1, more_owned held now t k more bs h.2)
  where
    go : (g : Guard Name) → Owns held t k g → Owns now t k g
    go Free o = o
    go (Under n) o = more n o
    go (Own u j) o = o

risen_exclusive : (m : theory.Mode) → greater_mode m (Some theory.Exclusive) ≡ theory.Exclusive
risen_exclusive theory.Shared = refl
risen_exclusive theory.Exclusive = refl

-- a name that is taken exclusively is held so
pub taken_alone : (held : Name → Option theory.Mode) (n : Name)
    → held_after system (Take n theory.Exclusive) held n ≡ Some theory.Exclusive
taken_alone held n = ap (λ b. cond b (Some theory.Exclusive) (held n)) (model.name_refl n)

pub still_exclusive : (held : Name → Option theory.Mode) (n : Name) (m : theory.Mode) (q : Name)
    → held q ≡ Some theory.Exclusive → held_after system (Take n m) held q ≡ Some theory.Exclusive
still_exclusive held n m q e =
    ap (λ o. cond (is_name q n) (Some (greater_mode m o)) o) e ∙ go (is_name q n)
  where
    go : (b : Bool) → cond b (Some (greater_mode m (Some theory.Exclusive))) (Some theory.Exclusive)
        ≡ Some theory.Exclusive
    go true = ap Some (risen_exclusive m)
    go false = refl

-- who shares no name with a mode that is asked for
none_together : (o : Option theory.Mode) → go_together theory.Exclusive o ≡ true → o ≡ None
none_together None e = refl
none_together (Some m) e = let no : ⊥ = cc in absurd no

never_together : (m : theory.Mode) → go_together m (Some theory.Exclusive) ≡ true → ⊥
never_together theory.Shared e = cc
never_together theory.Exclusive e = cc

risen_from : (m : theory.Mode) (o : Option theory.Mode) → Some (greater_mode m o) ≡ Some theory.Exclusive
    → (m ≡ theory.Exclusive) ⊎ (o ≡ Some theory.Exclusive)
risen_from theory.Exclusive o e = inl refl
risen_from theory.Shared None e = let no : ⊥ = cc in absurd no
risen_from theory.Shared (Some k) e = inr e

-- a name was taken that is free
pub safe_locked : (t : ℕ) (n : Name) (m : theory.Mode) (v : View) → IsFree v t (Take n m) → IsSafe v
    → IsSafe (with_lock t n m v)
safe_locked t n m v free s = record {
  owned = at_each (λ u held. AreOwned held u (suc (v.counts u)) (v.undo.active u)) t
      (held_after system (Take n m) (v.held t)) v.held
      (more_owned (v.held t) (held_after system (Take n m) (v.held t)) t (suc (v.counts t))
      (still_exclusive (v.held t) n m) (v.undo.active t) (s.owned t))
      (λ u ne. s.owned u);
  parts = at_each (λ u held. OwnAllParts held (v.undo.active u) v.rows) t
      (held_after system (Take n m) (v.held t)) v.held
      (more_parts (v.held t) (held_after system (Take n m) (v.held t)) (still_exclusive (v.held t) n m)
      (v.undo.active t) v.rows (s.parts t))
      (λ u ne. s.parts u);
  alone = λ x y q. at_pair (λ a b f g. f q ≡ Some theory.Exclusive → g q ≡ None) t
      (held_after system (Take n m) (v.held t)) v.held
      (λ u ne e. mine u ne q (is_name q n) refl e)
      (λ u ne e. theirs u ne q (is_name q n) refl e)
      (λ u w ne e. s.alone u w q ne e) x y;
  unwinds = s.unwinds;
}
  where
    mine : (u : ℕ) → u ≢ t → (q : Name) (b : Bool) → is_name q n ≡ b
        → cond b (Some (greater_mode m (v.held t q))) (v.held t q) ≡ Some theory.Exclusive → v.held u q ≡ None
    mine u ne q true same e = go (risen_from m (v.held t q) e)
      where
        go : (m ≡ theory.Exclusive) ⊎ (v.held t q ≡ Some theory.Exclusive) → v.held u q ≡ None
        go (inl x) = none_together (v.held u q)
            (subst (λ k. go_together k (v.held u q) ≡ true) x
            (subst (λ k. go_together m (v.held u k) ≡ true) (sym (model.name_true q n same)) (free u ne)))
        go (inr x) = s.alone t u q ne x
    mine u ne q false same e = s.alone t u q ne e

    theirs : (u : ℕ) → u ≢ t → (q : Name) (b : Bool) → is_name q n ≡ b → v.held u q ≡ Some theory.Exclusive
        → cond b (Some (greater_mode m (v.held t q))) (v.held t q) ≡ None
    theirs u ne q true same e =
        absurd (never_together m
        (subst (λ o. go_together m o ≡ true) e
        (subst (λ k. go_together m (v.held u k) ≡ true) (sym (model.name_true q n same)) (free u ne))))
    theirs u ne q false same e = s.alone u t q (λ d. ne (sym d)) e

-- a name was asked for
pub asked_safe : {T E : Type 0} (r : Result T E) (ts : tables.Places) (u : undo.SegmentLog) (ls ls' : Holdings) (t : ℕ)
    (n : Name) (m : Mode)
    → OnOk r (locks.IsFreeFor ls t n m) → OnOk r (locks.Takes ls ls' t n m) → OnOk r (locks.OthersKeep ls ls' t)
    → OnErr r (ls' ≡ ls)
    → IsSafe (view_from ts u ls) → IsSafe (view_from ts u ls')
asked_safe (Ok x) ts u ls ls' t n m free own others same s =
    subst IsSafe (sym (locked_is ts u ls ls' t n m own others))
    (safe_locked t n (mode_of m) (view_from ts u ls) (free_is ts u ls t n m free) s)
asked_safe (Err x) ts u ls ls' t n m free own others same s = subst (λ l. IsSafe (view_from ts u l)) (sym same) s

-- records of none of which the row lies under a name stay owned where that is let go of
less_owned : (held : Name → Option theory.Mode) (n : Name) (o : Option theory.Mode) (t k : ℕ) (bs : List Record)
    (r : Rows) → IsUnused n bs r → AreOwned held t k bs
    → AreOwned (λ q. cond (is_name q n) o (held q)) t k bs
less_owned held n o t k [] r u h = tt
less_owned held n o t k (b ∷ bs) r u h =
    (go (governs (record_key b)) u.0.0 h.0, h.1, less_owned held n o t k bs (put_back b r) u.1 h.2)
  where
    by : (q : Name) (x : Bool) → is_name q n ≡ x → Under q ≢ Under n → held q ≡ Some theory.Exclusive
        → cond x o (held q) ≡ Some theory.Exclusive
    by q true e ne h = absurd (ne (ap Under (model.name_true q n e)))
    by q false e ne h = h

    go : (g : Guard Name) → g ≢ Under n → Owns held t k g → Owns (λ q. cond (is_name q n) o (held q)) t k g
    go Free ne h = h
    go (Under q) ne h = by q (is_name q n) refl ne h
    go (Own x j) ne h = h

below_none : (o : Option theory.Mode) → IsBelow o None → ⊥
below_none None h = h
below_none (Some theory.Shared) h = h
below_none (Some theory.Exclusive) h = h

exclusive_below : (p : Option theory.Mode) → IsBelow (Some theory.Exclusive) p → ⊥
exclusive_below None h = h
exclusive_below (Some theory.Shared) h = h
exclusive_below (Some theory.Exclusive) h = h

-- a name was put into a lower mode, or let go of, under which the transaction has changed nothing
pub safe_put : (t : ℕ) (n : Name) (o : Option theory.Mode) (v : View) → IsBelow o (v.held t n)
    → IsUnused n (v.undo.active t) v.rows → IsSafe v → IsSafe (put_mode t n o v)
safe_put t n o v below unused s = record {
  owned = at_each (λ u held. AreOwned held u (suc (v.counts u)) (v.undo.active u)) t
      (λ q. cond (is_name q n) o (v.held t q)) v.held
      (less_owned (v.held t) n o t (suc (v.counts t)) (v.undo.active t) v.rows unused (s.owned t))
      (λ u ne. s.owned u);
  parts = at_each (λ u held. OwnAllParts held (v.undo.active u) v.rows) t
      (λ q. cond (is_name q n) o (v.held t q)) v.held
      (less_parts (v.held t) n o (v.undo.active t) v.rows unused (s.parts t))
      (λ u ne. s.parts u);
  alone = λ x y q. at_pair (λ a b f g. f q ≡ Some theory.Exclusive → g q ≡ None) t
      (λ q. cond (is_name q n) o (v.held t q)) v.held
      (λ u ne e. mine u ne q (is_name q n) refl e)
      (λ u ne e. theirs u ne q (is_name q n) refl e)
      (λ u w ne e. s.alone u w q ne e) x y;
  unwinds = s.unwinds;
}
  where
    mine : (u : ℕ) → u ≢ t → (q : Name) (b : Bool) → is_name q n ≡ b → cond b o (v.held t q) ≡ Some theory.Exclusive
        → v.held u q ≡ None
    mine u ne q true same e = absurd (exclusive_below (v.held t n) (subst (λ z. IsBelow z (v.held t n)) e below))
    mine u ne q false same e = s.alone t u q ne e

    theirs : (u : ℕ) → u ≢ t → (q : Name) (b : Bool) → is_name q n ≡ b → v.held u q ≡ Some theory.Exclusive
        → cond b o (v.held t q) ≡ None
    theirs u ne q true same e =
        let here : v.held u n ≡ Some theory.Exclusive = subst (λ k. v.held u k ≡ Some theory.Exclusive)
        (model.name_true q n same) e in
        absurd (below_none o (subst (IsBelow o) (s.alone u t n (λ d. ne (sym d)) here) below))
    theirs u ne q false same e = s.alone u t q (λ d. ne (sym d)) e

-- a name that is not held exclusively governs nothing that was changed
pub unused_if_lower : (held : Name → Option theory.Mode) (n : Name) (t k : ℕ) → held n ≢ Some theory.Exclusive
    → (bs : List Record) (r : Rows) → AreOwned held t k bs → OwnAllParts held bs r → IsUnused n bs r
unused_if_lower held n t k ne [] r h p = tt
unused_if_lower held n t k ne (b ∷ bs) r h p = (
  ((λ e. ne (subst (Owns held t k) e h.0)), left_if_lower held n b r ne p.0),
  unused_if_lower held n t k ne bs (put_back b r) h.2 p.1,
)

-- and where it was put below the mode in which it is held it is not
pub not_exclusive : (o p : Option theory.Mode) → IsBelow o p → o ≢ Some theory.Exclusive
not_exclusive o p h e = exclusive_below p (subst (λ z. IsBelow z p) e h)

-- a transaction's names are let go of
alone_gone : (t : ℕ) (v : View) → IsSafe v → (x y : ℕ) (q : Name) → y ≢ x
    → set t (λ _. None) v.held x q ≡ Some theory.Exclusive → set t (λ _. None) v.held y q ≡ None
alone_gone t v s x y q ne =
    at_pair (λ a b f g. f q ≡ Some theory.Exclusive → g q ≡ None) t (λ _. None) v.held
    (λ u d e. let no : ⊥ = cc in absurd no) (λ u d e. refl) (λ u w d e. s.alone u w q d e) x y ne

-- and it has no record any more
parts_gone : (t : ℕ) (v : View) (r : Rows) → ((u : ℕ) → u ≢ t → OwnAllParts (v.held u) (v.undo.active u) r) → (u : ℕ)
    → OwnAllParts (set t (λ _. None) v.held u) (set t [] v.undo.active u) r
parts_gone t v r others u = go (cases_eq u t)
  where
    go : (u ≡ t) ⊎ (u ≢ t) → OwnAllParts (set t (λ _. None) v.held u) (set t [] v.undo.active u) r
    go (inl e) = subst (λ bs. OwnAllParts (set t (λ _. None) v.held u) bs r) (sym (set_same t [] v.undo.active u e)) tt
    go (inr ne) =
        subst (λ bs. OwnAllParts (set t (λ _. None) v.held u) bs r) (sym (set_other t [] v.undo.active u ne))
        (subst (λ held. OwnAllParts held (v.undo.active u) r) (sym (set_other t (λ _. None) v.held u ne)) (others u ne))

-- what a transaction puts back is of rows of which no other has a record
are_others : (v : View) → IsSafe v → (t : ℕ) (gone : List Record) → AreOwned (v.held t) t (suc (v.counts t)) gone
    → (u : ℕ) → u ≢ t → AreOthers gone (v.undo.active u)
are_others v s t [] own u ne = tt
are_others v s t (a ∷ gone) own u ne = (
  has_none v s t (record_key a) own.0 u ne (v.undo.active u) (s.owned u),
  are_others v s t gone own.2 u ne,
)

-- a transaction was committed
pub safe_committed : (t : ℕ) (q : Request) (y : Reply) (v : View) → IsSafe v → IsSafe (after_commit t q y v)
safe_committed t q y v s = record {
  owned = λ u. go u (cases_eq u t);
  parts = parts_gone t v v.rows (λ u ne. s.parts u);
  alone = alone_gone t v s;
  unwinds = λ ts. sealed_unwinds v.undo.history t ts v.undo.active v.rows s.unwinds;
}
  where
    go : (u : ℕ) → (u ≡ t) ⊎ (u ≢ t) → AreOwned (set t (λ _. None) v.held u) u
        (suc (set t (suc (v.counts t)) v.counts u)) (set t [] v.undo.active u)
    go u (inl e) = subst (AreOwned (set t (λ _. None) v.held u) u (suc (set t (suc (v.counts t)) v.counts u)))
        (sym (set_same t [] v.undo.active u e)) tt
    go u (inr ne) =
        subst (AreOwned (set t (λ _. None) v.held u) u (suc (set t (suc (v.counts t)) v.counts u)))
        (sym (set_other t [] v.undo.active u ne))
        (subst (λ k. AreOwned (set t (λ _. None) v.held u) u (suc k) (v.undo.active u))
        (sym (set_other t (suc (v.counts t)) v.counts u ne))
        (subst (λ held. AreOwned held u (suc (v.counts u)) (v.undo.active u))
        (sym (set_other t (λ _. None) v.held u ne)) (s.owned u)))

below_owned : (n : ℕ) (held : Name → Option theory.Mode) (t k : ℕ) (bs : List Record) → AreOwned held t k bs
    → AreOwned held t k (drop n bs)
below_owned zero held t k bs h = h
below_owned (suc n) held t k [] h = tt
below_owned (suc n) held t k (b ∷ bs) h = below_owned n held t k bs h.2

taken_owned : (n : ℕ) (held : Name → Option theory.Mode) (t k : ℕ) (bs : List Record) → AreOwned held t k bs
    → AreOwned held t k (take n bs)
taken_owned zero held t k bs h = tt
taken_owned (suc n) held t k [] h = tt
taken_owned (suc n) held t k (b ∷ bs) h = (h.0, h.1, taken_owned n held t k bs h.2)

-- a transaction was taken back to a mark
pub safe_back : (t mark : ℕ) (v : View) → IsSafe v → IsSafe (back_at t mark v)
safe_back t mark v s =
    let n = count_since v t mark in
    record {
      owned = at_each (λ u bs. AreOwned (v.held u) u (suc (v.counts u)) bs) t (drop n (v.undo.active t)) v.undo.active
          (below_owned n (v.held t) t (suc (v.counts t)) (v.undo.active t) (s.owned t)) (λ u ne. s.owned u);
      parts = at_each (λ u bs. OwnAllParts (v.held u) bs (unwind system (take n (v.undo.active t)) v.rows)) t
          (drop n (v.undo.active t)) v.undo.active
          (parts_below n (v.held t) (v.undo.active t) v.rows (s.parts t))
          (λ u ne. parts_unwound (v.held u) (take n (v.undo.active t)) (v.undo.active u) v.rows
          (are_others v s t (take n (v.undo.active t))
          (taken_owned n (v.held t) t (suc (v.counts t)) (v.undo.active t) (s.owned t)) u ne) (s.parts u));
      alone = s.alone;
      unwinds = back_unwinds v.undo.history n (v.undo.active t) t v.undo.active v.rows refl s.unwinds;
    }

-- or rolled back
pub safe_rolled_back : (t : ℕ) (v : View) → IsSafe v → IsSafe (after_rollback t v)
safe_rolled_back t v s = record {
  owned = λ u. go u (cases_eq u t);
  parts = parts_gone t v (unwind system (v.undo.active t) v.rows) (λ u ne.
      parts_unwound (v.held u) (v.undo.active t) (v.undo.active u) v.rows
      (are_others v s t (v.undo.active t) (s.owned t) u ne) (s.parts u));
  alone = alone_gone t v s;
  unwinds = all_back v.undo.history t v.undo.active v.rows s.unwinds;
}
  where
    go : (u : ℕ) → (u ≡ t) ⊎ (u ≢ t) → AreOwned (set t (λ _. None) v.held u) u (suc (v.counts u))
        (set t [] v.undo.active u)
    go u (inl e) = subst (AreOwned (set t (λ _. None) v.held u) u (suc (v.counts u)))
        (sym (set_same t [] v.undo.active u e)) tt
    go u (inr ne) =
        subst (AreOwned (set t (λ _. None) v.held u) u (suc (v.counts u))) (sym (set_other t [] v.undo.active u ne))
        (subst (λ held. AreOwned held u (suc (v.counts u)) (v.undo.active u))
        (sym (set_other t (λ _. None) v.held u ne)) (s.owned u))

-- the newest of a transaction's records can be put back, so many as there may be
pub newest_unwind : (t n : ℕ) (v : View) → IsSafe v → CanUnwind (take n (v.undo.active t)) v.rows
newest_unwind t n v s = can_go_back v.undo.history n (v.undo.active t) t v.undo.active v.rows refl s.unwinds

pub all_unwind : (t : ℕ) (v : View) → IsSafe v → CanUnwind (v.undo.active t) v.rows
all_unwind t v s = all_go_back v.undo.history t v.undo.active v.rows s.unwinds

-- rows of the transaction's own, or under a name that is taken for it, it alone may change
pub owns_to_write : (v : View) (t k : ℕ) (g : Guard Name) → IsOwn t k g
    → Owns (held_after system (ask_to_write g) (v.held t)) t k g
owns_to_write v t k Free h = h
owns_to_write v t k (Under n) h = taken_alone (v.held t) n
owns_to_write v t k (Own u j) h = h
