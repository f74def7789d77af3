-- What a purge and a rewind make of what an engine stands for, and that it keeps its promise.
use Rattle.std.proofs.Common.{◌≡◌, ℕ, zero, suc, ◌-◌, true, false, refl, sym, ap, ◌∙◌, subst, inl, inr, List, [], ◌∷◌}
use Rattle.std.proofs.Common.{length, take, drop}
use Rattle.std.specs.Prelude.{Option, None, is_some, Result, Ok, Err, OnOk, OnErr, IfErr}
use Rattle.std.proofs.lemmas.List.{length-set}
use mathlib.Core.Path.{fun_ext}
use Rattle.oe_rows.specs.declared.keys.Key.{Key}
use Rattle.oe_requests.specs.declared.refusals.Refusal.{Refusal}
use Rattle.oe_requests.specs.declared.refusals.Refusal.TheVariants.{TooOld, Future, NotQuiet}
use Rattle.oe_theory.specs.Undo.{HasRecord, HasRecordIn}
use Rattle.oe_theory.specs.Store.{Slot, after_rewind}
use Rattle.oe_model.specs.Changes.{Record, record_key}
use Rattle.oe_model.specs.Meets.{Meets}
use Rattle.oe_model.specs.System.{system, terminal_limit}
use Rattle.oe_store.specs.Places.{rows}
use Rattle.oe_store.specs.Places as tables
use Rattle.oe_log.specs.Log.{SegmentLog, Committed, active_at, open_total, with_newest, records_in}
use Rattle.oe_journal.specs.Rewinds.{without_first_commit, without_newest}
use Rattle.oe_journal.specs.Rewinds as journal
use Rattle.oe_log.specs.Stands.{model_records, undo_of}
use Rattle.oe_log.proofs.LawFacts as stands
use Rattle.oe_log.proofs.StandsFacts.{slots_counted}
use Rattle.oe_journal.specs.GivesUp.{IsDeletedIn, HasNoRecord, GivesUpThose, GivesUpDeleted}
use Rattle.oe_journal.specs.GoesBack.{CanUnwindAll, HavePlaces, AllHavePlaces}
use Rattle.oe_log.specs.Moments.{store_with}
use Rattle.oe_log.specs.Moments as past
use Rattle.oe_journal.specs.Linked.{StayLinked}
use Rattle.oe_journal.specs.Named.{AreNeeded, GivesUpUnnamed}
use Rattle.oe_journal.proofs.NamedFacts.{active_placed, history_placed}
use Rattle.oe_journal.proofs.LeftFacts.{none_in_open, none_in_commits}
use Rattle.oe_journal.proofs.RewindFacts.{none_open, quiet_still, rewinds}
use Rattle.oe_undo.specs.Undo.{UndoState}
use Rattle.oe_locks.specs.Held.{Holdings}
use Rattle.oe_engine.specs.View.{View, view_from}
use Rattle.oe_engine.specs.Covered.{AreOwned, OwnAllParts, Unwinds, IsSafe}
use Rattle.oe_engine.specs.Kept.{IsKept, IsSound}
use Rattle.oe_engine.specs.Renames.{AreNamed}
use Rattle.oe_engine.specs.declared.renames.Renames.{Renames}
use Rattle.oe_engine.specs.Calls.{IsQuiet, CantRewind, after_purge}
use Rattle.oe_engine.specs.Calls as calls
use Rattle.oe_engine.proofs.CoveredFacts.{purged_unwinds, all_left, none_unwinds}
use Rattle.oe_engine.proofs.LinkFacts.{linked_less}
use Rattle.oe_engine.proofs.NeededFacts.{purged_needed}
use Rattle.oe_engine.proofs.LockFacts.{held_of}
use Rattle.oe_engine.proofs.RenameFacts.{named_purged, named_rewound}

-- the commits that are kept have places
taken_places : (ts : tables.Places) (n : ℕ) (ss : List (List Record)) → AllHavePlaces ts ss
    → AllHavePlaces ts (take n ss)
taken_places ts zero ss h = tt
taken_places ts (suc n) [] h = tt
taken_places ts (suc n) (bs ∷ ss) h = (h.0, taken_places ts n ss h.1)

left_places : (ts : tables.Places) (n : ℕ) (ss : List (List Record)) → AllHavePlaces ts ss
    → AllHavePlaces ts (drop n ss)
left_places ts zero ss h = h
left_places ts (suc n) [] h = tt
left_places ts (suc n) (bs ∷ ss) h = left_places ts n ss h.1

-- keys without a place any more are not these records', so that those have theirs
still_places : (ts ts' : tables.Places) (P : Key → Type 0) → GivesUpThose ts ts' P → (bs : List Record)
    → ((k : Key) → P k → HasRecord system k bs → ⊥)
    → HavePlaces ts bs → HavePlaces ts' bs
still_places ts ts' P g [] other h = tt
still_places ts ts' P g (b ∷ bs) other h = (
  (g (record_key b)).1 (h.0, λ p. absurd (other (record_key b) p (inl refl))),
  still_places ts ts' P g bs
      (λ k p e. other k p (inr e)) h.1,
)

all_still_places : (ts ts' : tables.Places) (P : Key → Type 0) → GivesUpThose ts ts' P → (ss : List (List Record))
    → ((k : Key) → P k → HasRecordIn system k ss → ⊥)
    → AllHavePlaces ts ss → AllHavePlaces ts' ss
all_still_places ts ts' P g [] other h = tt
all_still_places ts ts' P g (bs ∷ ss) other h = (
  still_places ts ts' P g bs (λ k p e. other k p (inl e)) h.0,
  all_still_places ts ts' P g ss
      (λ k p e. other k p (inr e)) h.1,
)

-- A purge. A record that is kept is of no key whose place went
purged_kept : (ts ts' : tables.Places) (u : SegmentLog) (ls : Holdings) (n : ℕ)
    → GivesUpDeleted ts ts' (drop n (undo_of u).history) (with_newest n u)
    → AreNeeded ts' (undo_of (with_newest n u)) → IsKept ts u ls → IsKept ts' (with_newest n u) ls
unfolding terminal_limit
purged_kept ts ts' u ls n g needed k =
    let w : SegmentLog = with_newest n u in
    let gone : Key → Type 0 = λ j. IsDeletedIn j (drop n (undo_of u).history) × HasNoRecord w j in
    record {
      size = k.size;
      active = λ t. still_places ts ts' gone g ((undo_of u).active t) (λ j p e. none_in_open j w k.size p.1 t e)
          (k.active t);
      history = all_still_places ts ts' gone g (undo_of w).history (λ j p e. none_in_commits j w p.1 e)
          (subst (λ z. AllHavePlaces ts z.history) (sym (stands.cuts u n).undo)
          (taken_places ts n (undo_of u).history k.history));
      needed = needed;
      idle = k.idle;
      counted = k.counted;
    }

purged_view : (ts ts' : tables.Places) (u : SegmentLog) (ls : Holdings) (m : ℕ) → rows ts' ≡ rows ts
    → view_from ts' (with_newest (past.newest u - m) u) ls ≡ after_purge m (view_from ts u ls)
unfolding view_from
purged_view ts ts' u ls m same =
    let c = stands.cuts u (past.newest u - m) in
    λ i. record {
      rows = same i;
      undo = c.undo i;
      seals = c.seals i;
      counts = c.counts i;
      held = held_of ls;
      is_open = λ t. is_some (active_at u t);
      extents = u.extents;
      layout = u.layout;
    }

safe_purged : (m : ℕ) (v : View) → IsSafe v → IsSafe (after_purge m v)
safe_purged m v s = record {
  owned = s.owned;
  parts = s.parts;
  alone = s.alone;
  unwinds = λ ts. purged_unwinds (calls.newest v - m) v.undo.history ts v.undo.active v.rows (s.unwinds ts);
}

pub purge_sound : {T E : Type 0} (r : Result T E) (ts ts' : tables.Places) (u u' : UndoState) (ls : Holdings) (m : ℕ)
    → OnOk r (u'.log ≡ with_newest (past.newest u.log - m) u.log) → rows ts' ≡ rows ts
    → OnOk r (GivesUpDeleted ts ts' (drop (past.newest u.log - m) (undo_of u.log).history) u'.log)
    → u'.links ≡ u.links → OnErr r ((ts' ≡ ts) × (u' ≡ u)) → IsSound ts u ls → IsSound ts' u' ls
purge_sound (Ok x) ts ts' u u' ls m is rows_same places links_same same s =
    let gone = drop (past.newest u.log - m) (undo_of u.log).history in
    let went = subst (GivesUpDeleted ts ts' gone) is places in
    record {
      kept = subst (λ z. IsKept ts' z ls) (sym is)
          (purged_kept ts ts' u.log ls (past.newest u.log - m) went
          (purged_needed ts ts' u.log ls (past.newest u.log - m) rows_same went s.safe s.kept.needed) s.kept);
      safe = subst (λ z. IsSafe (view_from ts' z ls)) (sym is)
          (subst IsSafe (sym (purged_view ts ts' u.log ls m rows_same)) (safe_purged m (view_from ts u.log ls) s.safe));
      linked = linked_less ts ts' u.links u'.links (λ k. IsDeletedIn k gone × HasNoRecord u'.log k) places links_same
          s.linked;
    }
purge_sound (Err e) ts ts' u u' ls m is rows_same places links_same same s =
    subst (λ z. IsSound z u' ls) (sym same.0) (subst (λ z. IsSound ts z ls) (sym same.1) s)

pub purge_named : {T E : Type 0} (r : Result T E) (ts ts' : tables.Places) (u u' : UndoState) (ls : Holdings) (m : ℕ)
    (a : Renames)
    → OnOk r (u'.log ≡ with_newest (past.newest u.log - m) u.log) → rows ts' ≡ rows ts
    → OnErr r ((ts' ≡ ts) × (u' ≡ u)) → AreNamed (view_from ts u.log ls) a → AreNamed (view_from ts' u'.log ls) a
purge_named (Ok x) ts ts' u u' ls m a is same err h =
    subst (λ v. AreNamed v a) (sym (ap (λ z. view_from ts' z ls) is ∙ purged_view ts ts' u.log ls m same))
    (named_purged m (view_from ts u.log ls) a h)
purge_named (Err e) ts ts' u u' ls m a is same err h =
    subst (λ z. AreNamed (view_from z u'.log ls) a) (sym err.0)
    (subst (λ z. AreNamed (view_from ts z.log ls) a) (sym err.1) h)

pub purge_view : {T E : Type 0} (r : Result T E) (ts ts' : tables.Places) (u u' : UndoState) (ls : Holdings) (m : ℕ)
    → OnOk r (u'.log ≡ with_newest (past.newest u.log - m) u.log)
    → rows ts' ≡ rows ts → OnOk r (view_from ts' u'.log ls ≡ after_purge m (view_from ts u.log ls))
purge_view (Ok x) ts ts' u u' ls m is same = ap (λ z. view_from ts' z ls) is ∙ purged_view ts ts' u.log ls m same
purge_view (Err e) ts ts' u u' ls m is same = tt

-- A rewind. No segment is open after it either
quiet_rewound : (n : ℕ) (v : SegmentLog) → ((t : ℕ) → active_at v t ≡ None) → (t : ℕ)
    → active_at (without_newest n v) t ≡ None
quiet_rewound zero v h = h
quiet_rewound (suc n) v h = quiet_rewound n (without_first_commit v v.committed) (quiet_still v v.committed h)

size_rewound : (n : ℕ) (v : SegmentLog) → length (without_newest n v).terminals ≡ length v.terminals
size_rewound zero v = refl
size_rewound (suc n) v = size_rewound n (without_first_commit v v.committed) ∙ one v.committed
  where
    one : (cs : List Committed) → length (without_first_commit v cs).terminals ≡ length v.terminals
    one [] = refl
    one (c ∷ cs) = length-set v.terminals c.terminal _

rewound_kept : (ts ts' : tables.Places) (u : SegmentLog) (ls : Holdings) (n : ℕ)
    → GivesUpUnnamed ts ts' (undo_of u) (undo_of (without_newest n u))
    → ((t : ℕ) → active_at u t ≡ None) → IsKept ts u ls → IsKept ts' (without_newest n u) ls
rewound_kept ts ts' u ls n gives quiet k =
    let r = rewinds u n in
    record {
      size = size_rewound n u ∙ k.size;
      active = λ t. active_placed ts ts' (undo_of u) (undo_of (without_newest n u)) gives t
          (subst (λ z. HavePlaces ts (z.active t)) (sym r.undo) (k.active t));
      history = history_placed ts ts' (undo_of u) (undo_of (without_newest n u)) gives
          (subst (λ z. AllHavePlaces ts z.history) (sym r.undo) (left_places ts n (undo_of u).history k.history));
      needed = gives.needed k.needed;
      idle = λ t e. k.idle t (ap is_some (quiet t));
      counted = λ t e. let no : false ≡ true = sym (ap is_some (quiet_rewound n u quiet t)) ∙ e in cc;
    }

rewound_view : (ts ts' : tables.Places) (u : SegmentLog) (ls : Holdings) (m : ℕ) → ((t : ℕ) → active_at u t ≡ None)
    → ((slots : ℕ → Option (Slot system)) → store_with (rows ts') (without_newest (past.newest u - m) u)
    slots ≡ after_rewind system m (store_with (rows ts) u slots))
    → view_from ts' (without_newest (past.newest u - m) u) ls ≡ calls.after_rewind m (view_from ts u ls)
unfolding view_from
rewound_view ts ts' u ls m quiet is =
    let s = is (λ t. None) in
    let opens : (λ (t : ℕ). is_some (active_at (without_newest (past.newest u - m) u) t))
    ≡ (λ (t : ℕ). is_some (active_at u t)) =
    fun_ext (λ t. ap is_some (quiet_rewound (past.newest u - m) u quiet t ∙ sym (quiet t))) in
    λ i. record {
      rows = (s i).tables;
      undo = (s i).undo;
      seals = (s i).seals;
      counts = (s i).counts;
      held = held_of ls;
      is_open = opens i;
      extents = (s i).extents;
      layout = (s i).layout;
    }

safe_rewound : (m : ℕ) (v : View) → ((t : ℕ) → v.undo.active t ≡ []) → Meets (calls.after_rewind m v).rows → IsSafe v
    → IsSafe (calls.after_rewind m v)
safe_rewound m v empty meets s =
    let w : View = calls.after_rewind m v in
    let none : ◌≡◌ {A = ℕ → List Record} (λ t. []) v.undo.active = fun_ext (λ t. sym (empty t)) in
    record {
      owned = λ t. subst (AreOwned (v.held t) t (suc (w.counts t))) (sym (empty t)) tt;
      parts = λ t. subst (λ bs. OwnAllParts (v.held t) bs w.rows) (sym (empty t)) tt;
      alone = s.alone;
      unwinds = λ ts. subst (λ (z : ℕ → List Record). Unwinds w.undo.history z w.rows ts) none
          (none_unwinds w.undo.history ts w.rows meets
          (all_left (calls.newest v - m) v.undo.history v.rows ((s.unwinds []).1 empty)));
    }

no_records_of : (u : SegmentLog) → ((t : ℕ) → active_at u t ≡ None) → (t : ℕ) → (undo_of u).active t ≡ []
no_records_of u quiet t = ap (λ a. model_records (records_in a)) (quiet t)

pub rewind_sound : {T E : Type 0} (r : Result T E) (ts ts' : tables.Places) (u u' : UndoState) (ls : Holdings) (m : ℕ)
    → OnOk r (open_total u.log ≡ 0)
    → OnOk r (u'.log ≡ without_newest (past.newest u.log - m) u.log)
    → OnOk r ((slots : ℕ → Option (Slot system))
    → store_with (rows ts') u'.log slots ≡ after_rewind system m (store_with (rows ts) u.log slots))
    → GivesUpUnnamed ts ts' (undo_of u.log) (undo_of u'.log) → StayLinked ts ts' u.links u'.links → OnErr r (u' ≡ u)
    → OnErr r (ts' ≡ ts) → Meets (rows ts') → IsSound ts u ls → IsSound ts' u' ls
unfolding view_from
rewind_sound (Ok x) ts ts' u u' ls m none log is places stay same same_tables meets s =
    let quiet = none_open u.log none in
    let stored = subst (λ z. (slots : ℕ → Option (Slot system))
    → store_with (rows ts') z slots ≡ after_rewind system m (store_with (rows ts) u.log slots)) log is in
    let there : rows ts' ≡ (calls.after_rewind m (view_from ts u.log ls)).rows =
    ap (λ z. z.tables) (stored (λ t. None)) in
    record {
      kept = subst (λ z. IsKept ts' z ls) (sym log)
          (rewound_kept ts ts' u.log ls (past.newest u.log - m)
          (subst (λ z. GivesUpUnnamed ts ts' (undo_of u.log) (undo_of z)) log places) quiet s.kept);
      safe = subst (λ z. IsSafe (view_from ts' z ls)) (sym log)
          (subst IsSafe (sym (rewound_view ts ts' u.log ls m quiet stored))
          (safe_rewound m (view_from ts u.log ls) (no_records_of u.log quiet) (subst Meets there meets) s.safe));
      linked = stay.linked s.linked;
    }
rewind_sound (Err e) ts ts' u u' ls m none log is places stay same same_tables meets s =
    subst (λ z. IsSound z u' ls) (sym same_tables) (subst (λ z. IsSound ts z ls) (sym same) s)

pub rewind_named : (ts ts' : tables.Places) (u u' : UndoState) (ls : Holdings) (m : ℕ) (b : Renames)
    → open_total u.log ≡ 0 → u'.log ≡ without_newest (past.newest u.log - m) u.log
    → ((slots : ℕ → Option (Slot system))
    → store_with (rows ts') u'.log slots ≡ after_rewind system m (store_with (rows ts) u.log slots))
    → b.since ≡ past.newest u'.log → AreNamed (view_from ts' u'.log ls) b
unfolding view_from
rewind_named ts ts' u u' ls m b none log is since =
    let quiet = none_open u.log none in
    let stored = subst (λ z. (slots : ℕ → Option (Slot system))
    → store_with (rows ts') z slots ≡ after_rewind system m (store_with (rows ts) u.log slots)) log is in
    let view : view_from ts' u'.log ls ≡ calls.after_rewind m (view_from ts u.log ls) =
    ap (λ z. view_from ts' z ls) log ∙ rewound_view ts ts' u.log ls m quiet stored in
    subst (λ v. AreNamed v b) (sym view)
    (named_rewound m (view_from ts u.log ls) b (no_records_of u.log quiet) (since ∙ ap calls.newest view))

pub rewind_view : {T E : Type 0} (r : Result T E) (ts ts' : tables.Places) (u u' : UndoState) (ls : Holdings) (m : ℕ)
    → OnOk r (open_total u.log ≡ 0)
    → OnOk r (u'.log ≡ without_newest (past.newest u.log - m) u.log)
    → OnOk r ((slots : ℕ → Option (Slot system))
    → store_with (rows ts') u'.log slots ≡ after_rewind system m (store_with (rows ts) u.log slots))
    → OnOk r (view_from ts' u'.log ls ≡ calls.after_rewind m (view_from ts u.log ls))
rewind_view (Ok x) ts ts' u u' ls m none log is =
    let stored = subst (λ z. (slots : ℕ → Option (Slot system))
    → store_with (rows ts') z slots ≡ after_rewind system m (store_with (rows ts) u.log slots)) log is in
    ap (λ z. view_from ts' z ls) log ∙ rewound_view ts ts' u.log ls m (none_open u.log none) stored
rewind_view (Err e) ts ts' u u' ls m none log is = tt

-- quiet in the view
pub is_quiet : (ts : tables.Places) (u : SegmentLog) (ls : Holdings) → open_total u ≡ 0 → IsQuiet (view_from ts u ls)
unfolding view_from
is_quiet ts u ls none t = ap is_some (none_open u none t)

-- then the records of the commits can be put back
pub commits_go_back : (ts : tables.Places) (u : SegmentLog) (ls : Holdings) → IsSafe (view_from ts u ls)
    → open_total u ≡ 0 → CanUnwindAll (undo_of u).history (rows ts)
unfolding view_from
commits_go_back ts u ls s none = (s.unwinds []).1 (no_records_of u (none_open u none))

-- why it is refused
cause_is : (ts : tables.Places) (u : SegmentLog) (ls : Holdings) (m : ℕ) (e : Refusal) → length u.terminals ≡ 65
    → journal.CantRewind u m e → CantRewind (view_from ts u ls) m e
unfolding view_from
cause_is ts u ls m (NotQuiet n) size h = (λ slots same. slots_counted u slots size same ∙ sym h.0, h.1)
cause_is ts u ls m (TooOld k) size h = (is_quiet ts u ls h.0, h.1)
cause_is ts u ls m (Future k) size h = (is_quiet ts u ls h.0, h.1)
cause_is ts u ls m _ size h = absurd h.1

pub rewind_cause : {T : Type 0} (r : Result T Refusal) (ts : tables.Places) (u : SegmentLog) (ls : Holdings) (m : ℕ)
    → length u.terminals ≡ 65
    → IfErr r (journal.CantRewind u m) → IfErr r (CantRewind (view_from ts u ls) m)
rewind_cause (Ok x) ts u ls m size h = tt
rewind_cause (Err e) ts u ls m size h = cause_is ts u ls m e size h
