-- What an engine keeps of its tables, its undo log and its locks, each call keeps.
use Rattle.std.proofs.Common.{◌≡◌, ◌≢◌, ℕ, suc, ◌<◌, ◌==◌, Bool, true, false, cond, refl, sym, ap, ◌∙◌, subst, inl, inr}
use Rattle.std.proofs.Common.{replicate, List, [], ◌∷◌, length, get_or}
use Rattle.std.specs.Prelude.{◌↔◌, None, Some, IsSome, is_some, Result, Ok, Err, OnOk, OnErr}
use Rattle.std.proofs.lemmas.Bool.{cases_eq, cond-true, cond-false, eq-eqb, ne_eqb, true≢false}
use Rattle.std.proofs.lemmas.List.{length-set, length-replicate}
use Rattle.oe_requests.specs.declared.requests.Request.{Request}
use Rattle.oe_requests.specs.declared.replies.Reply.{Reply}
use Rattle.oe_theory.specs.World as world
use Rattle.oe_rows.specs.declared.keys.Key.{Key}
use Rattle.oe_theory.specs.Undo.{Undo, HasRecord}
use Rattle.oe_theory.proofs.Sets.{set_other}
use Rattle.oe_rows.specs.declared.layouts.Layout.{Layout}
use Rattle.oe_model.specs.Rows.{row_at}
use Rattle.oe_model.specs.Changes.{Record}
use Rattle.oe_model.specs.System.{system}
use Rattle.oe_store.specs.Places.{rows, HasPlace}
use Rattle.oe_store.specs.Places as tables
use Rattle.oe_log.specs.Log.{SegmentLog, TerminalState, idle, active_at, count_at, no_segments, idle_terminals}
use Rattle.oe_log.specs.Log.{with_segment}
use Rattle.oe_log.specs.Log.{after_seal}
use Rattle.oe_log.specs.Stands.{undo_of}
use Rattle.oe_log.proofs.LawFacts as stands
use Rattle.oe_log.proofs.LawFacts.{idle_at}
use Rattle.oe_log.proofs.StateFacts.{seen_same, some_of}
use Rattle.oe_locks.specs.Held.{Holdings, OthersKeep, HoldsNothing, IsIdle}
use Rattle.oe_journal.specs.GoesBack.{HavePlaces, AllHavePlaces}
use Rattle.oe_journal.specs.Named.{IsUnnamed, AreNeeded}
use Rattle.oe_engine.specs.Kept.{IsKept}
use Rattle.oe_engine.proofs.LogFacts.{active_set}

-- one terminal's records replaced
pub places_set : (ts : tables.Places) (t : ℕ) (bs : List Record) (f : ℕ → List Record) → HavePlaces ts bs
    → ((x : ℕ) → HavePlaces ts (f x))
    → (x : ℕ) → HavePlaces ts (world.set t bs f x)
places_set ts t bs f own others x = go (x == t)
  where
    go : (b : Bool) → HavePlaces ts (cond b bs (f x))
    go true = own
    go false = others x

-- what is asked of terminals without an open transaction, where one is open no longer or was opened
idle_set : (P : ℕ → Type 0) (f g : ℕ → Bool) (t : ℕ) (b : Bool) → ((x : ℕ) → g x ≡ world.set t b f x)
    → (b ≡ false → P t)
    → ((x : ℕ) → x ≢ t → f x ≡ false → P x) → (x : ℕ) → g x ≡ false → P x
idle_set P f g t b is own others x e =
    elim (cases_eq x t) [
      | inl same ↦ subst P (sym same) (own (sym (cond-true (x == t) b (f x) (eq-eqb x t same)) ∙ sym (is x) ∙ e))
      | inr ne ↦ others x ne (sym (cond-false (x == t) b (f x) (ne_eqb x t ne)) ∙ sym (is x) ∙ e)
    ]

-- at the beginning
pub first_kept : (ts : tables.Places) (n : ℕ) (l : Layout) (ls : Holdings)
    → ((k : Key) → HasPlace ts k ↔ IsSome (row_at (rows ts) k)) → IsIdle ls → IsKept ts (no_segments n l) ls
unfolding idle_terminals
first_kept ts n l ls live quiet =
    let b = stands.begun n l in
    record {
      size = length-replicate 65 idle;
      active = λ t. subst (λ u. HavePlaces ts (u.active t)) (sym b.0) tt;
      history = subst (λ u. AllHavePlaces ts u.history) (sym b.0) tt;
      needed = λ k p none. (live k).0 p;
      idle = λ t e q. quiet t q;
      counted = λ t e.
          let none : is_some (get_or (replicate 65 idle) t idle).active ≡ false =
          ap (λ (z : TerminalState). is_some z.active) (idle_at 65 t) in
          absurd (true≢false (sym e ∙ none));
    }

-- a segment was opened
pub opened_kept : (ts : tables.Places) (u : SegmentLog) (ls : Holdings) (t : ℕ) → t < length u.terminals
    → active_at u t ≡ None
    → count_at u t < 4_294_967_295 → IsKept ts u ls → IsKept ts (with_segment u t) ls
opened_kept ts u ls t within closed below k =
    let s = stands.opens u t closed in
    let open_is : (x : ℕ) → is_some (active_at (with_segment u t) x)
    ≡ world.set t true (λ y. is_some (active_at u y)) x =
    active_set u t (record
    { count = count_at u t; active = Some (record { terminal = t; number = suc (count_at u t); records = [] }) })
    within in
    let counts : (x : ℕ) → count_at (with_segment u t) x ≡ count_at u x =
    seen_same (λ z. z.count) u.terminals t
    (record {
      count = count_at u t;
      active = Some
          (record { terminal = t; number = suc (count_at u t); records = [] });
    }) refl in
    record {
      size = length-set u.terminals t _ ∙ k.size;
      active = λ x. subst (λ z. HavePlaces ts (z.active x)) (sym s.undo) (k.active x);
      history = subst (λ z. AllHavePlaces ts z.history) (sym s.undo) k.history;
      needed = subst (AreNeeded ts) (sym s.undo) k.needed;
      idle = idle_set (HoldsNothing ls) (λ y. is_some (active_at u y))
          (λ y. is_some (active_at (with_segment u t) y)) t true
          open_is (λ e. absurd (true≢false e)) (λ x ne e. k.idle x e);
      counted = λ x e. elim (cases_eq x t) [
        | inl same ↦ subst (λ n. n < 4_294_967_295) (sym (counts x ∙ ap (count_at u) same)) below
        | inr ne ↦ subst (λ n. n < 4_294_967_295) (sym (counts x))
            (k.counted x (sym (cond-false (x == t) true (is_some (active_at u x)) (ne_eqb x t ne)) ∙ sym (open_is x)
            ∙ e))
      ];
    }

-- the names of a terminal with an open transaction have changed
pub locks_kept : (ts : tables.Places) (u : SegmentLog) (ls ls' : Holdings) (t : ℕ) → is_some (active_at u t) ≡ true
    → OthersKeep ls ls' t → IsKept ts u ls → IsKept ts u ls'
locks_kept ts u ls ls' t is others k =
    record {
      size = k.size;
      active = k.active;
      history = k.history;
      needed = k.needed;
      idle = λ x e q. elim (cases_eq x t) [
        | inl same ↦ absurd (true≢false (sym is ∙ (ap (λ y. is_some (active_at u y)) (sym same) ∙ e)))
        | inr ne ↦ others x ne q ∙ k.idle x e q
      ];
      counted = k.counted;
    }

pub released_idle : (ls ls' : Holdings) (t : ℕ) (f g : ℕ → Bool) → ((x : ℕ) → g x ≡ world.set t false f x)
    → HoldsNothing ls' t → OthersKeep ls ls' t
    → ((x : ℕ) → f x ≡ false → HoldsNothing ls x) → (x : ℕ) → g x ≡ false → HoldsNothing ls' x
released_idle ls ls' t f g is own others old =
    idle_set (HoldsNothing ls') f g t false is (λ e. own) (λ x ne e q. others x ne q ∙ old x e q)

-- the newest commit's records were its terminal's open ones
sealed_names : (d : Undo system) (t : ℕ) (k : Key)
    → IsUnnamed (record { active = world.set t [] d.active; history = d.active t ∷ d.history }) k → IsUnnamed d k
sealed_names d t k none = (at, λ has. none.1 (inr has))
  where
    at : (x : ℕ) → HasRecord system k (d.active x) → ⊥
    at x has = elim (cases_eq x t) [
      | inl same ↦ none.1 (inl (subst (λ y. HasRecord system k (d.active y)) same has))
      | inr ne ↦ none.0 x (subst (HasRecord system k) (sym (set_other t [] d.active x ne)) has)
    ]

-- a segment was sealed, and its terminal's names were let go of
pub sealed_kept : (ts : tables.Places) (u : SegmentLog) (ls ls' : Holdings) (t : ℕ) (q : Request) (y : Reply)
    → t < length u.terminals → is_some (active_at u t) ≡ true
    → HoldsNothing ls' t → OthersKeep ls ls' t → IsKept ts u ls → IsKept ts (after_seal u t q y) ls'
sealed_kept ts u ls ls' t q y within is own others k =
    let o = some_of (active_at u t) is in
    let s = stands.seals u t o.0 q y o.1 in
    let open_is : (x : ℕ) → is_some (active_at (after_seal u t q y) x)
    ≡ world.set t false (λ y. is_some (active_at u y))
    x =
    active_set u t (record { count = suc (count_at u t); active = None }) within in
    record {
      size = length-set u.terminals t _ ∙ k.size;
      active = λ x. subst (λ z. HavePlaces ts (z.active x)) (sym s.undo)
          (places_set ts t [] (undo_of u).active tt k.active x);
      history = subst (λ z. AllHavePlaces ts z.history) (sym s.undo) (k.active t, k.history);
      needed = subst (AreNeeded ts) (sym s.undo) (λ j p none. k.needed j p (sealed_names (undo_of u) t j none));
      idle = released_idle ls ls' t (λ x. is_some (active_at u x))
          (λ x. is_some (active_at (after_seal u t q y) x)) open_is
          own others k.idle;
      counted = λ x e. elim (cases_eq x t) [
        | inl same ↦ absurd (true≢false
            (sym e ∙ (open_is x ∙ cond-true (x == t) false (is_some (active_at u x)) (eq-eqb x t same))))
        | inr ne ↦ subst (λ n. n < 4_294_967_295)
            (sym (ap (λ f. f x) s.counts ∙ cond-false (x == t) (suc (count_at u t)) (count_at u x) (ne_eqb x t ne)))
            (k.counted x (sym (cond-false (x == t) false (is_some (active_at u x)) (ne_eqb x t ne)) ∙ sym (open_is x)
            ∙ e))
      ];
    }

-- a name was asked for
pub asked_kept : {T E : Type 0} (r : Result T E) (ts : tables.Places) (u : SegmentLog) (ls ls' : Holdings) (t : ℕ)
    → is_some (active_at u t) ≡ true
    → OnOk r (OthersKeep ls ls' t) → OnErr r (ls' ≡ ls) → IsKept ts u ls → IsKept ts u ls'
asked_kept (Ok v) ts u ls ls' t is others same k = locks_kept ts u ls ls' t is others k
asked_kept (Err e) ts u ls ls' t is others same k = subst (IsKept ts u) (sym same) k
