-- A stage is its lock and its change.
use Rattle.std.proofs.Common.{◌≡◌, ℕ, Bool, true, false, cond, refl, sym, ap, ◌∙◌, subst, inl, inr, ◌⊎◌, ◌∷◌}
use Rattle.std.specs.Prelude.{Option, None, Some, is_some, option_map, Result, Ok, Err, OnOk, IfOk, IfErr}
use Rattle.std.proofs.lemmas.Bool.{true≢false}
use mathlib.Core.Path.{fun_ext}
use Rattle.oe_rows.specs.declared.locks.Name.{Name}
use Rattle.oe_rows.specs.declared.locks.Mode.{Mode}
use Rattle.oe_rows.specs.declared.locks.Mode.TheVariants.{Shared, Exclusive}
use Rattle.oe_requests.specs.declared.refusals.Refusal.{Refusal}
use Rattle.oe_requests.specs.declared.refusals.Refusal.TheVariants.{NoSuchRow, RowExists, Overflow, Reference}
use Rattle.oe_requests.specs.declared.refusals.Refusal.TheVariants.{KeyColumn, Busy, UndoFull, NoMemory, NotOpen}
use Rattle.oe_requests.specs.declared.refusals.Refusal.TheVariants.{AlreadyOpen, InvalidItem, NoCustomer, TooOld}
use Rattle.oe_requests.specs.declared.refusals.Refusal.TheVariants.{Future, NotQuiet, NotPinned}
use Rattle.oe_theory.specs.Machine as theory
use Rattle.oe_theory.specs.Machine.{Plain, Take}
use Rattle.oe_theory.specs.World as world
use Rattle.oe_theory.specs.Next.{held_after, record_on}
use Rattle.oe_theory.specs.Undo.{put_records}
use Rattle.oe_model.specs.Changes.{Change, rows_after}
use Rattle.oe_model.specs.Locks.{mode_of, is_name}
use Rattle.oe_model.specs.System.{system}
use Rattle.oe_model.proofs.SystemLaws as model
use Rattle.oe_store.specs.Places.{rows}
use Rattle.oe_store.specs.Places as tables
use Rattle.oe_change.specs.Applies.{Refuses}
use Rattle.oe_locks.specs.Held as locks
use Rattle.oe_locks.specs.Held.{Holdings, mode_held}
use Rattle.oe_log.specs.Log as undo
use Rattle.oe_log.specs.Log.{active_at}
use Rattle.oe_engine.specs.View.{View, view_from}
use Rattle.oe_engine.specs.Kept.{IsKept}
use Rattle.oe_engine.specs.Calls.{IsFree, IsInTheWay, IsBelow, with_lock, after_change, put_mode, LockRefused}
use Rattle.oe_engine.specs.Calls.{ChangeRefused}
use Rattle.oe_engine.specs.Calls.{after_stage}
use Rattle.oe_engine.proofs.LockFacts.{held_of, same_together, taken_is, put_is, set_own, set_at, set_twice, put_taken}

pub change_done : (t : ℕ) (c : Change) (v : View) → after_stage t Plain (Some c) v ≡ after_change t c v
change_done t c v = λ i. record {
  rows = rows_after c v.rows;
  undo = put_records system t (record_on system v.layout c v.rows ∷ v.undo.active t) v.undo;
  seals = v.seals;
  counts = v.counts;
  held = set_own t v.held i;
  is_open = v.is_open;
  extents = v.extents;
  layout = v.layout;
}

-- a name that was taken is held in no lower mode than before
pub risen_above : (m : theory.Mode) (o : Option theory.Mode) → (o ≡ Some (world.greater_mode m o))
    ⊎ IsBelow o (Some (world.greater_mode m o))
risen_above theory.Shared None = inr tt
risen_above theory.Exclusive None = inr tt
risen_above theory.Shared (Some theory.Shared) = inl refl
risen_above theory.Shared (Some theory.Exclusive) = inl refl
risen_above theory.Exclusive (Some theory.Shared) = inr tt
risen_above theory.Exclusive (Some theory.Exclusive) = inl refl

held_taken : (t : ℕ) (n : Name) (m : theory.Mode) (v : View)
    → (with_lock t n m v).held t n ≡ Some (world.greater_mode m (v.held t n))
held_taken t n m v =
    ap (λ f. f n) (set_at t (held_after system (Take n m) (v.held t)) v.held)
    ∙ ap (λ b. cond b (Some (world.greater_mode m (v.held t n))) (v.held t n)) (model.name_refl n)

pub can_restore : (t : ℕ) (n : Name) (m : theory.Mode) (v : View) → (v.held t n ≡ (with_lock t n m v).held t n)
    ⊎ IsBelow (v.held t n) ((with_lock t n m v).held t n)
can_restore t n m v =
    subst (λ o. (v.held t n ≡ o) ⊎ IsBelow (v.held t n) o) (sym (held_taken t n m v)) (risen_above m (v.held t n))

-- where it is put back into the mode before, all is as it was
pub restored : (t : ℕ) (n : Name) (m : theory.Mode) (v : View) → put_mode t n (v.held t n) (with_lock t n m v) ≡ v
restored t n m v =
    let h : Name → Option theory.Mode = held_after system (Take n m) (v.held t) in
    let own : (λ q. cond (is_name q n) (v.held t n) (world.set t h v.held t q)) ≡ v.held t =
    fun_ext (λ q. ap (λ f. cond (is_name q n) (v.held t n) (f q)) (set_at t h v.held) ∙ put_taken (v.held t) n m q) in
    let all : world.set t (λ q. cond (is_name q n) (v.held t n) (world.set t h v.held t q))
    (world.set t h v.held) ≡ v.held =
    ap (λ g. world.set t g (world.set t h v.held)) own ∙ set_twice t (v.held t) h v.held ∙ set_own t v.held in
    λ i. record {
      rows = v.rows;
      undo = v.undo;
      seals = v.seals;
      counts = v.counts;
      held = all i;
      is_open = v.is_open;
      extents = v.extents;
      layout = v.layout;
    }

-- a name that is put into the mode in which it is held already
pub put_same : (t : ℕ) (n : Name) (v : View) → put_mode t n (v.held t n) v ≡ v
put_same t n v =
    let own : (λ q. cond (is_name q n) (v.held t n) (v.held t q)) ≡ v.held t = fun_ext (λ q. go q (is_name q n) refl) in
    let all : world.set t (λ q. cond (is_name q n) (v.held t n) (v.held t q)) v.held ≡ v.held =
    ap (λ g. world.set t g v.held) own ∙ set_own t v.held in
    λ i. record {
      rows = v.rows;
      undo = v.undo;
      seals = v.seals;
      counts = v.counts;
      held = all i;
      is_open = v.is_open;
      extents = v.extents;
      layout = v.layout;
    }
  where
    go : (q : Name) (b : Bool) → is_name q n ≡ b → cond b (v.held t n) (v.held t q) ≡ v.held t q
    go q true e = ap (v.held t) (sym (model.name_true q n e))
    go q false e = refl

-- the modes below one are those of the code
pub below_so : (m o : Option Mode) → IsBelow (option_map mode_of m) (option_map mode_of o) → locks.IsBelow m o
below_so None (Some Shared) h = tt
below_so None (Some Exclusive) h = tt
below_so (Some Shared) (Some Exclusive) h = tt
below_so None None h = absurd h
below_so (Some Shared) None h = absurd h
below_so (Some Exclusive) None h = absurd h
below_so (Some Shared) (Some Shared) h = absurd h
below_so (Some Exclusive) (Some Shared) h = absurd h
below_so (Some Exclusive) (Some Exclusive) h = absurd h

pub below_as : (m o : Option Mode) → locks.IsBelow m o → IsBelow (option_map mode_of m) (option_map mode_of o)
below_as None (Some Shared) h = tt
below_as None (Some Exclusive) h = tt
below_as (Some Shared) (Some Exclusive) h = tt
below_as None None h = absurd h
below_as (Some Shared) None h = absurd h
below_as (Some Exclusive) None h = absurd h
below_as (Some Shared) (Some Shared) h = absurd h
below_as (Some Exclusive) (Some Shared) h = absurd h
below_as (Some Exclusive) (Some Exclusive) h = absurd h

-- Freedom and its causes, in the theory's words
module _ (ts : tables.Places) (u : undo.SegmentLog) (ls : Holdings) where
  pub free_is : (t : ℕ) (n : Name) (m : Mode) → locks.IsFreeFor ls t n m
      → IsFree (view_from ts u ls) t (Take n (mode_of m))
  unfolding view_from
  free_is t n m h w ne = same_together m (mode_held ls w n) ∙ h w ne

  -- whoever is in the way has a transaction open
  pub way_is : (t : ℕ) (n : Name) (m : Mode) (w : ℕ) → IsKept ts u ls → locks.IsInTheWay ls t n m w
      → IsInTheWay (view_from ts u ls) t n (mode_of m) w
  unfolding view_from
  way_is t n m w k h =
      record {
        other = h.other;
        is_open = go (is_some (active_at u w)) refl;
        conflicts = same_together m (mode_held ls w n) ∙ h.conflicts;
        least = λ x less ne. same_together m (mode_held ls x n) ∙ h.least x less ne;
      }
    where
      go : (b : Bool) → is_some (active_at u w) ≡ b → is_some (active_at u w) ≡ true
      go true e = e
      go false e =
          let none : locks.go_together m (mode_held ls w n) ≡ true = ap (locks.go_together m) (k.idle w e n) in
          absurd (true≢false (sym none ∙ h.conflicts))

  -- why a name is refused
  pub lock_cause : (t : ℕ) (n : Name) (m : Mode) (e : Refusal) → IsKept ts u ls → locks.IsCause ls t n m e
      → LockRefused (view_from ts u ls) t n (mode_of m) e
  unfolding view_from
  lock_cause t n m (Busy name w) k h =
      (h.0, subst (λ z. IsInTheWay (view_from ts u ls) t z (mode_of m) w) (sym h.0) (way_is t n m w k h.1))
  lock_cause t n m NoMemory k h = (free_is t n m h.0, ap (option_map mode_of) h.1)
  lock_cause t n m (NoSuchRow x) k h = absurd h
  lock_cause t n m (RowExists x) k h = absurd h
  lock_cause t n m (Overflow x) k h = absurd h
  lock_cause t n m (Reference x) k h = absurd h
  lock_cause t n m KeyColumn k h = absurd h
  lock_cause t n m UndoFull k h = absurd h
  lock_cause t n m NotOpen k h = absurd h
  lock_cause t n m AlreadyOpen k h = absurd h
  lock_cause t n m InvalidItem k h = absurd h
  lock_cause t n m NoCustomer k h = absurd h
  lock_cause t n m (TooOld x) k h = absurd h
  lock_cause t n m (Future x) k h = absurd h
  lock_cause t n m (NotQuiet x) k h = absurd h
  lock_cause t n m (NotPinned x) k h = absurd h

  -- a terminal without an open transaction holds nothing
  pub idle_is : (t : ℕ) → IsKept ts u ls → (view_from ts u ls).is_open t ≡ false
      → (view_from ts u ls).held t ≡ (λ _. None)
  unfolding view_from
  idle_is t k e = fun_ext (λ q. ap (option_map mode_of) (k.idle t e q))

  pub locked_is : (new : Holdings) (t : ℕ) (n : Name) (m : Mode) → locks.Takes ls new t n m → locks.OthersKeep ls new t
      → view_from ts u new ≡ with_lock t n (mode_of m) (view_from ts u ls)
  unfolding view_from
  locked_is new t n m own others =
      let names : held_of new ≡ world.set t (held_after system (Take n (mode_of m)) (held_of ls t)) (held_of ls) =
      taken_is ls new t n m own others in
      let before : View = view_from ts u ls in
      λ i. record {
        rows = before.rows;
        undo = before.undo;
        seals = before.seals;
        counts = before.counts;
        held = names i;
        is_open = before.is_open;
        extents = before.extents;
        layout = before.layout;
      }

  pub mode_put : (new : Holdings) (t : ℕ) (n : Name) (m : Option Mode) → locks.GivesBack ls new t n m
      → locks.OthersKeep ls new t
      → view_from ts u new ≡ put_mode t n (option_map mode_of m) (view_from ts u ls)
  unfolding view_from
  mode_put new t n m own others =
      let names : held_of new ≡ world.set t (λ q. cond (is_name q n) (option_map mode_of m) (held_of ls t q))
      (held_of ls) = put_is ls new t n m own others in
      let before : View = view_from ts u ls in
      λ i. record {
        rows = before.rows;
        undo = before.undo;
        seals = before.seals;
        counts = before.counts;
        held = names i;
        is_open = before.is_open;
        extents = before.extents;
        layout = before.layout;
      }

  -- a mode that is not below the one held is that one
  pub put_nothing : (t : ℕ) (n : Name) (m : Option Mode) → (option_map mode_of m ≡ (view_from ts u ls).held t n)
      ⊎ IsBelow (option_map mode_of m) ((view_from ts u ls).held t n)
      → (locks.IsBelow m (mode_held ls t n) → ⊥) → view_from ts u ls ≡ put_mode t n (option_map mode_of m)
      (view_from ts u ls)
  unfolding view_from
  put_nothing t n m (inl e) never =
      sym (subst (λ z. put_mode t n z (view_from ts u ls) ≡ view_from ts u ls) (sym e)
      (put_same t n (view_from ts u ls)))
  put_nothing t n m (inr h) never = absurd (never (below_so m (mode_held ls t n) h))

-- a refusal of the tables is one of a change
pub refused_so : (c : Change) (s : tables.Places) (e : Refusal) → Refuses c s e → ChangeRefused c (rows s) e
refused_so c s NoMemory h = tt
refused_so c s (Busy name u) h = h
refused_so c s NotOpen h = h
refused_so c s (NoSuchRow y) h = h
refused_so c s (RowExists y) h = h
refused_so c s (Overflow y) h = h
refused_so c s (Reference y) h = h
refused_so c s KeyColumn h = h
refused_so c s UndoFull h = tt
refused_so c s AlreadyOpen h = h
refused_so c s InvalidItem h = h
refused_so c s NoCustomer h = h
refused_so c s (TooOld y) h = h
refused_so c s (Future y) h = h
refused_so c s (NotQuiet y) h = h
refused_so c s (NotPinned y) h = h

-- what follows of a result's value or error, where something else does
pub on_ok : {T E : Type 0} {P Q : Type 0} (r : Result T E) → (P → Q) → OnOk r P → OnOk r Q
on_ok (Ok v) f h = f h
on_ok (Err e) f h = tt

pub if_ok : {T E : Type 0} {P Q : T → Type 0} (r : Result T E) → ((x : T) → P x → Q x) → IfOk r P → IfOk r Q
if_ok (Ok v) f h = f v h
if_ok (Err e) f h = tt

pub if_err : {T E : Type 0} {P Q : E → Type 0} (r : Result T E) → ((e : E) → P e → Q e) → IfErr r P → IfErr r Q
if_err (Ok v) f h = tt
if_err (Err e) f h = f e h

pub on_both : {T E : Type 0} {P Q R : Type 0} (r : Result T E) → (P → Q → R) → OnOk r P → OnOk r Q → OnOk r R
on_both (Ok v) f g h = f g h
on_both (Err e) f g h = tt

-- what follows of a test that failed
pub not_so : (b x : Bool) → (x ≡ true → b ≡ true) → b ≡ false → x ≡ false
not_so b false f e = refl
not_so b true f e = absurd (true≢false (sym (f refl) ∙ e))
