-- What a rollback leaves.
use Rattle.std.proofs.Common.{◌≡◌, ℕ, ◌-◌, ◌<◌, ◌≤◌, ◌==◌, false, refl, sym, ap, ◌∙◌, subst, inl, inr, arith, List, []}
use Rattle.std.proofs.Common.{◌∷◌, length, take, drop}
use Rattle.std.specs.Prelude.{None, is_some}
use Rattle.std.proofs.lemmas.Bool.{cases_eq, cond-true, cond-false, eq-eqb, ne_eqb, true≢false}
use Rattle.std.proofs.lemmas.List.{length-set, length-map, take_all, drop_all}
use mathlib.Core.Path.{fun_ext}
use Rattle.oe_theory.specs.World as world
use Rattle.oe_theory.specs.Undo.{unwind, put_records}
use Rattle.oe_model.specs.System.{system}
use Rattle.oe_store.specs.Places.{rows}
use Rattle.oe_store.specs.Places as tables
use Rattle.oe_log.specs.Records.{Logged}
use Rattle.oe_log.specs.Log.{SegmentLog, active_at, records_at, count_at, without_segment}
use Rattle.oe_log.specs.Stands.{model_records, undo_of}
use Rattle.oe_log.proofs.LawFacts as stands
use Rattle.oe_log.proofs.StateFacts.{seen_same}
use Rattle.oe_locks.specs.Held.{Holdings, OthersKeep, HoldsNothing}
use Rattle.oe_engine.specs.View.{view_from}
use Rattle.oe_journal.specs.GoesBack.{HavePlaces, AllHavePlaces}
use Rattle.oe_journal.specs.Named.{AreNeeded}
use Rattle.oe_journal.proofs.NamedFacts.{active_placed, history_placed}
use Rattle.oe_theory.proofs.Sets.{set_other}
use Rattle.oe_engine.specs.Kept.{IsKept}
use Rattle.oe_engine.specs.Calls.{back_at, after_rollback}
use Rattle.oe_journal.specs.Unwinds.{TakesBack}
use Rattle.oe_engine.proofs.LockFacts.{held_of, released_is}
use Rattle.oe_engine.proofs.LogFacts.{active_set}
use Rattle.oe_engine.proofs.KeptFacts.{released_idle}

-- the engine's promise after records were put back
pub taken_kept : (ts ts' : tables.Places) (u u' : SegmentLog) (ls : Holdings) (t n : ℕ) → TakesBack ts u t n ts' u'
    → IsKept ts u ls → IsKept ts' u' ls
taken_kept ts ts' u u' ls t n h k =
    let w = h.others in
    let g = active_placed ts ts' (undo_of u) (undo_of u') w.places in
    record {
      size = w.size ∙ k.size;
      active = λ x. elim (cases_eq x t) [
        | inl same ↦ subst (λ y. HavePlaces ts' ((undo_of u').active y)) (sym same) w.own
        | inr ne ↦ g x (subst (HavePlaces ts)
            (sym (ap (λ z. z.active x) w.undo ∙ set_other t ((undo_of u').active t) (undo_of u).active x ne))
            (k.active x))
      ];
      history = history_placed ts ts' (undo_of u) (undo_of u') w.places
          (subst (λ z. AllHavePlaces ts z.history) (sym w.undo) k.history);
      needed = w.places.needed k.needed;
      idle = λ x e. k.idle x (sym (w.is_open x) ∙ e);
      counted = λ x e. subst (λ m. m < 4_294_967_295) (sym (ap (λ f. f x) w.counts))
          (k.counted x (sym (w.is_open x) ∙ e));
    }

-- and after an empty segment was dropped, and its terminal's names were let go of
pub dropped_kept : (ts : tables.Places) (u : SegmentLog) (ls ls' : Holdings) (t : ℕ) → t < length u.terminals
    → records_at u t ≡ []
    → HoldsNothing ls' t → OthersKeep ls ls' t → IsKept ts u ls → IsKept ts (without_segment u t) ls'
dropped_kept ts u ls ls' t within empty own others k =
    let s = stands.drops u t empty in
    let open_is : (x : ℕ) → is_some (active_at (without_segment u t) x)
    ≡ world.set t false (λ y. is_some (active_at u y)) x =
    active_set u t (record { count = count_at u t; active = None }) within in
    let counts : (x : ℕ) → count_at (without_segment u t) x ≡ count_at u x =
    seen_same (λ z. z.count) u.terminals t (record { count = count_at u t; active = None }) refl in
    record {
      size = length-set u.terminals t _ ∙ k.size;
      active = λ x. subst (λ z. HavePlaces ts (z.active x)) (sym s.undo) (k.active x);
      history = subst (λ z. AllHavePlaces ts z.history) (sym s.undo) k.history;
      needed = subst (AreNeeded ts) (sym s.undo) k.needed;
      idle = released_idle ls ls' t (λ x. is_some (active_at u x))
          (λ x. is_some (active_at (without_segment u t) x)) open_is
          own others k.idle;
      counted = λ x e. elim (cases_eq x t) [
        | inl same ↦ absurd (true≢false
            (sym e ∙ (open_is x ∙ cond-true (x == t) false (is_some (active_at u x)) (eq-eqb x t same))))
        | inr ne ↦ subst (λ n. n < 4_294_967_295) (sym (counts x))
            (k.counted x (sym (cond-false (x == t) false (is_some (active_at u x)) (ne_eqb x t ne)) ∙ sym (open_is x)
            ∙ e))
      ];
    }

-- back at a mark
pub back_is : (ts ts' : tables.Places) (u u' : SegmentLog) (ls : Holdings) (t mark n : ℕ)
    → n ≡ length ((undo_of u).active t) - mark → TakesBack ts u t n ts' u'
    → view_from ts' u' ls ≡ back_at t mark (view_from ts u ls)
unfolding view_from
back_is ts ts' u u' ls t mark n is h =
    let w = h.others in
    let rows_is : rows ts' ≡ unwind system (take (length ((undo_of u).active t) - mark) ((undo_of u).active t))
    (rows ts) =
    h.rows ∙ ap (λ m. unwind system (take m ((undo_of u).active t)) (rows ts)) is in
    let undo_is : undo_of u' ≡ put_records system t (drop (length ((undo_of u).active t) - mark) ((undo_of u).active t))
    (undo_of u) =
    w.undo ∙ ap (λ bs. put_records system t bs (undo_of u)) (h.records ∙ ap (λ m. drop m ((undo_of u).active t)) is) in
    let opens : (λ (x : ℕ). is_some (active_at u' x)) ≡ (λ (x : ℕ). is_some (active_at u x)) = fun_ext w.is_open in
    λ i. record {
      rows = rows_is i;
      undo = undo_is i;
      seals = w.seals i;
      counts = w.counts i;
      held = held_of ls;
      is_open = opens i;
      extents = w.extents i;
      layout = w.layout i;
    }

no_model : (rs : List Logged) → model_records rs ≡ [] → rs ≡ []
no_model [] e = refl
no_model (r ∷ rs) e = cc

-- where as many were put back as there were, none is left
pub none_is_left : (ts ts' : tables.Places) (u u' : SegmentLog) (t n : ℕ) → n ≡ length (records_at u t)
    → TakesBack ts u t n ts' u' → records_at u' t ≡ []
none_is_left ts ts' u u' t n is h =
    let many = length-map (records_at u t) (λ r. r.before) in
    no_model (records_at u' t) (h.records ∙ drop_all n ((undo_of u).active t) (omega arith))

-- all put back, dropped and let go of
pub rolled_back_is : (ts ts' : tables.Places) (u u' : SegmentLog) (ls ls' : Holdings) (t n : ℕ)
    → n ≡ length (records_at u t) → t < length u.terminals
    → TakesBack ts u t n ts' u' → HoldsNothing ls' t → OthersKeep ls ls' t
    → view_from ts' (without_segment u' t) ls' ≡ after_rollback t (view_from ts u ls)
unfolding view_from
rolled_back_is ts ts' u u' ls ls' t n is within h own others =
    let w = h.others in
    let empty : records_at u' t ≡ [] = none_is_left ts ts' u u' t n is h in
    let s = stands.drops u' t empty in
    let many = length-map (records_at u t) (λ r. r.before) in
    let all : take n ((undo_of u).active t) ≡ (undo_of u).active t = take_all n ((undo_of u).active t) (omega arith) in
    let rows_is : rows ts' ≡ unwind system ((undo_of u).active t) (rows ts) = h.rows
    ∙ ap (λ bs. unwind system bs (rows ts)) all in
    let undo_is : undo_of (without_segment u' t) ≡ put_records system t [] (undo_of u) =
    s.undo ∙ w.undo ∙ ap (λ rs. put_records system t (model_records rs) (undo_of u)) empty in
    let there : t < length u'.terminals = subst (λ m. t < m) (sym w.size) within in
    let opens : (λ (x : ℕ). is_some (active_at (without_segment u' t) x)) ≡ world.set t false
    (λ (x : ℕ). is_some (active_at u x)) =
    fun_ext (active_set u' t (record { count = count_at u' t; active = None }) there)
    ∙ ap (world.set t false) (fun_ext w.is_open) in
    let names : held_of ls' ≡ world.set t (λ _. None) (held_of ls) = released_is ls ls' t own others in
    let seals_is = s.seals ∙ w.seals in
    let counts_is = s.counts ∙ w.counts in
    λ i. record {
      rows = rows_is i;
      undo = undo_is i;
      seals = seals_is i;
      counts = counts_is i;
      held = names i;
      is_open = opens i;
      extents = w.extents i;
      layout = w.layout i;
    }

-- a log and what it is seen as have as many records
pub counted : (u v : SegmentLog) (t n : ℕ) → v ≡ u → n ≡ length (records_at v t) → n ≡ length (records_at u t)
counted u v t n same is = is ∙ ap (λ z. length (records_at z t)) same

-- how many are to go to come back to a mark
pub since_is : (u : SegmentLog) (t k n mark m : ℕ) → t ≡ k → n ≡ length (records_at u t) → m ≡ mark
    → n - m ≡ length ((undo_of u).active k) - mark
since_is u t k n mark m same is at =
    let many = length-map (records_at u t) (λ b. b.before) in
    let there : length ((undo_of u).active t) ≡ length ((undo_of u).active k) =
    ap (λ z. length ((undo_of u).active z)) same in
    omega arith

pub within_mark : (u : SegmentLog) (t k n mark m : ℕ) → t ≡ k → n ≡ length (records_at u t) → m ≡ mark
    → mark ≤ length ((undo_of u).active k) → m ≤ n
within_mark u t k n mark m same is at below =
    let many = length-map (records_at u t) (λ b. b.before) in
    let there : length ((undo_of u).active t) ≡ length ((undo_of u).active k) =
    ap (λ z. length ((undo_of u).active z)) same in
    omega arith
