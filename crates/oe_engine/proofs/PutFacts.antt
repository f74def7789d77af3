-- What a write leaves of an engine, whether it was made or refused.
use Rattle.std.proofs.Common.{◌≡◌, ◌∙◌, ◌⊎◌, ℕ, suc, refl, sym, ap, subst, length, Option, None, Some}
use Rattle.std.specs.Prelude.{Result, Ok, Err, OnOk, OnErr, IfErr}
use Rattle.std.specs.Option.{IsSomeAnd, ForSome}
use Rattle.oe_theory.specs.Machine.{Ask, Plain}
use Rattle.oe_theory.specs.Machine as theory
use Rattle.oe_theory.specs.Next.{record_on}
use Rattle.oe_rows.specs.declared.locks.Name.{Name}
use Rattle.oe_requests.specs.declared.refusals.Refusal.{Refusal}
use Rattle.oe_values.specs.declared.numbers.TheConstants.{TERMINALS}
use Rattle.oe_model.specs.Changes.{Change, rows_after}
use Rattle.oe_model.specs.Locks.{mode_of}
use Rattle.oe_model.specs.Lengths.{record_length}
use Rattle.oe_model.specs.System.{system}
use Rattle.oe_change.specs.declared.writes.Write.{Write}
use Rattle.oe_change.specs.Writes.{key_written}
use Rattle.oe_store.specs.Places.{rows}
use Rattle.oe_store.specs.Places as tables
use Rattle.oe_log.specs.Log.{IsFull}
use Rattle.oe_undo.specs.Undo.{UndoState}
use Rattle.oe_journal.specs.Linked.{AreLinked}
use Rattle.oe_journal.specs.Recorded.{IsRecorded, HasRecorded, HasRoomFor, CantWrite}
use Rattle.oe_writes.specs.Asks.{ask_of}
use Rattle.oe_locks.specs.declared.asks.Lock.{Lock}
use Rattle.oe_writes.proofs.RecordFacts.{write_records}
use Rattle.oe_locks.specs.Held.{Holdings}
use Rattle.oe_engine.specs.View.{EngineState, View, view_of, view_from, Handle, IsOpen}
use Rattle.oe_engine.specs.Covered.{OwnsParts, MayMake, IsSafe, IsUnused}
use Rattle.oe_engine.specs.Calls.{IsFree, IsBelow, with_lock, with_ask, put_mode, ask_put_back}
use Rattle.oe_engine.specs.Kept.{IsKept, IsSound, IsOrderly}
use Rattle.oe_engine.specs.Renames.{AreNamed, Notes}
use Rattle.oe_engine.specs.declared.renames.Renames.{Renames}
use Rattle.oe_engine.specs.Writes.{MayWrite, IsMade, Writes}
use Rattle.oe_engine.proofs.MakeFacts.{change_view, change_kept}
use Rattle.oe_engine.proofs.SafeFacts.{safe_made, unused_if_lower, not_exclusive}
use Rattle.oe_engine.proofs.RenameFacts.{named_made, named_noted}
use Rattle.oe_engine.proofs.HeldFacts.{parts_held}
use Rattle.oe_engine.proofs.PartFacts.{change_done, can_restore, restored}
use Rattle.oe_engine.proofs.FullFacts.{full_so, full_as}
use Rattle.oe_engine.proofs.WriteFacts.{at_change, may_make, refused_written, refused_full, refused_absent, wants_row}
use Rattle.oe_engine.proofs.WriteFacts.{change_refused, row_absent, still_open, made_behind, refused_behind}

module _ (ts ts' : tables.Places) (u x : UndoState) (ls : Holdings) (t : ℕ) where
  -- a transaction may make this change
  abbrev pub MayHere : Change → Type 0
  MayHere c = MayMake ((view_from ts u.log ls).held t) t (suc ((view_from ts u.log ls).counts t)) c

  -- or this write
  abbrev pub MayWriteHere : Write → Type 0
  MayWriteHere w =
      MayWrite (view_from ts u.log ls).rows ((view_from ts u.log ls).held t) t
      (suc ((view_from ts u.log ls).counts t)) w

  -- and each facet that it changes lies under a name that it holds
  abbrev HoldsHere : Change → Type 0
  HoldsHere c =
      OwnsParts ((view_from ts u.log ls).held t) (view_from ts u.log ls).rows
      (rows_after c (view_from ts u.log ls).rows)

  change_sound : (c : Change) → MayHere c → HoldsHere c → IsRecorded c ts ts' u x t → AreLinked ts' x.links
      → IsSound ts u ls → IsSound ts' x ls
  unfolding view_from
  change_sound c may holds h linked s = record {
    kept = change_kept ts ts' u x ls t c h s.kept;
    safe = subst IsSafe (sym (change_view ts ts' u x ls t c h))
        (safe_made t c (view_from ts u.log ls) h.applies.accepted may holds s.safe);
    linked = linked;
  }

  same_sound : ts' ≡ ts → x.log ≡ u.log → AreLinked ts' x.links → IsSound ts u ls → IsSound ts' x ls
  same_sound tables log linked s = record {
    kept = subst (λ z. IsKept z x.log ls) (sym tables) (subst (λ z. IsKept ts z ls) (sym log) s.kept);
    safe = subst (λ z. IsSafe (view_from z x.log ls)) (sym tables)
        (subst (λ z. IsSafe (view_from ts z ls)) (sym log) s.safe);
    linked = linked;
  }

  -- a write is a change of the row that is there
  module _ (w : Write) where
    put_sound : {T E : Type 0} (r : Result T E) → MayWriteHere w → OnOk r (HasRecorded w ts ts' u x t)
        → OnErr r (ts' ≡ ts) → OnErr r (x.log ≡ u.log) → AreLinked ts' x.links → IsSound ts u ls → IsSound ts' x ls
    unfolding view_from
    put_sound (Ok v) may h tables log linked s =
        let (c, found, is) = at_change _ _ h in
        change_sound c (may_make ((view_from ts u.log ls).held t) t (suc ((view_from ts u.log ls).counts t)) w (rows ts)
        c found may) (parts_held w (rows ts) ((view_from ts u.log ls).held t) c found may.1) is linked s
    put_sound (Err e) may h tables log linked s = same_sound tables log linked s

    put_named : {T E : Type 0} (r : Result T E) (a b : Renames) → MayWriteHere w
        → OnOk r (HasRecorded w ts ts' u x t) → OnErr r (ts' ≡ ts) → OnErr r (x.log ≡ u.log) → Notes w t a b
        → IsOrderly ts u ls a → AreNamed (view_from ts' x.log ls) b
    unfolding view_from
    put_named (Ok v) a b may h tables log noted s =
        let (c, found, is) = at_change _ _ h in
        subst (λ z. AreNamed z b) (sym (change_view ts ts' u x ls t c is))
        (named_made w t c (view_from ts u.log ls) a b found
        (may_make ((view_from ts u.log ls).held t) t (suc ((view_from ts u.log ls).counts t)) w (rows ts) c found may)
        s.sound.safe noted s.named)
    put_named (Err e) a b may h tables log noted s =
        named_noted w t (view_from ts' x.log ls) a b noted
        (subst (λ z. AreNamed (view_from z x.log ls) a) (sym tables)
        (subst (λ z. AreNamed (view_from ts z ls) a) (sym log) s.named))

    pub put_orderly : {T E : Type 0} (r : Result T E) (a b : Renames) (p q : ℕ) → p ≡ t → q ≡ p → MayWriteHere w
        → OnOk r (HasRecorded w ts ts' u x q) → OnErr r (ts' ≡ ts) → OnErr r (x.log ≡ u.log) → AreLinked ts' x.links
        → Notes w p a b → IsOrderly ts u ls a → IsOrderly ts' x ls b
    put_orderly r a b p q here there may h tables log linked noted s =
        let made : OnOk r (HasRecorded w ts ts' u x t) =
        subst (λ z. OnOk r (HasRecorded w ts ts' u x z)) (there ∙ here) h in
        record {
          sound = put_sound r may made tables log linked s.sound;
          named = put_named r a b may made tables log (subst (λ z. Notes w z a b) here noted) s;
        }

-- ---- behind what was asked for

-- the name of a lock that was taken can be put back as it was
pub can_put_back : (t : ℕ) (o : Option Lock) (m : Option theory.Mode) (v v' : View)
    → ForSome o (λ l. m ≡ v.held t l.name) → v' ≡ with_ask t (ask_of o) v
    → ForSome o (λ l. (m ≡ v'.held t l.name) ⊎ IsBelow m (v'.held t l.name))
can_put_back t o m v v' was asked l is =
    subst (λ (z : View). (m ≡ z.held t l.name) ⊎ IsBelow m (z.held t l.name))
    (sym (asked ∙ ap (λ z. with_ask t (ask_of z) v) is))
    (subst (λ k. (k ≡ (with_lock t l.name (mode_of l.mode) v).held t l.name)
    ⊎ IsBelow k ((with_lock t l.name (mode_of l.mode) v).held t l.name)) (sym (was l is))
    (can_restore t l.name (mode_of l.mode) v))

-- where the name was not held alone before, nothing was changed under it
pub unused_there : (t : ℕ) (o : Option Lock) (m : Option theory.Mode) (v v' : View) → IsSafe v
    → ForSome o (λ l. m ≡ v.held t l.name) → v' ≡ with_ask t (ask_of o) v
    → ForSome o (λ l. IsBelow m (v'.held t l.name) → IsUnused l.name (v'.undo.active t) v'.rows)
unused_there t o m v v' safe was asked l is h =
    let below : IsBelow (v.held t l.name) (v'.held t l.name) =
    subst (λ k. IsBelow k (v'.held t l.name)) (was l is) h in
    subst (λ (z : View). IsUnused l.name (z.undo.active t) z.rows)
    (sym (asked ∙ ap (λ z. with_ask t (ask_of z) v) is))
    (unused_if_lower (v.held t) l.name t (suc (v.counts t)) (not_exclusive _ _ below) (v.undo.active t) v.rows
    (safe.owned t) (safe.parts t))

-- and then all is as it was
pub as_before : (t : ℕ) (o : Option Lock) (m : Option theory.Mode) (v v' : View)
    → ForSome o (λ l. m ≡ v.held t l.name) → v' ≡ with_ask t (ask_of o) v → ask_put_back t o m v' ≡ v
as_before t None m v v' was asked = asked
as_before t (Some l) m v v' was asked =
    ap (λ (z : View). put_mode t l.name m z) asked
    ∙ ap (λ k. put_mode t l.name k (with_lock t l.name (mode_of l.mode) v)) (was l refl)
    ∙ restored t l.name (mode_of l.mode) v

-- so the engine's write is what the contract says
module _ (ts ts' : tables.Places) (u u' : UndoState) (ls : Holdings) (a b : Renames) (name : ℕ) (x : Handle)
    (w : Write) where
  abbrev pub before : EngineState
  before = record { tables = ts; undo = u.log; links = u.links; locks = ls; renames = a; name = name }

  abbrev pub after : EngineState
  after = record { tables = ts'; undo = u'.log; links = u'.links; locks = ls; renames = b; name = name }

  put_writes : (r : Result (Unit {0}) Refusal) → IsOpen before x → length u.log.terminals ≡ suc TERMINALS
      → OnOk r (HasRecorded w ts ts' u u' x.terminal) → OnOk r (HasRoomFor w (rows ts) u.log x.terminal)
      → IfErr r (CantWrite w ts u.log x.terminal) → OnErr r (ts' ≡ ts) → OnErr r (u'.log ≡ u.log)
      → Writes before x Plain w r after
  unfolding view_of view_from
  put_writes (Ok v) o size recorded room cause tables log =
      let (c, found, is) = at_change _ _ recorded in
      let fits : IsFull u.log x.terminal (record_length (record_on system u.log.layout c (rows ts))) → ⊥ =
      subst (λ m. IsSomeAnd m (λ d. IsFull u.log x.terminal (record_length d) → ⊥))
      (write_records u.log.layout w c (rows ts) found is.applies.accepted) room in
      let is_made : IsMade before x Plain c after =
      record {
        is_open = o;
        free = tt;
        accepted = is.applies.accepted;
        room = λ full. fits (full_as ts u.log ls x.terminal c size full);
        done = change_view ts ts' u u' ls x.terminal c is
            ∙ sym (change_done x.terminal c (view_from ts u.log ls));
      } in
      record {
        made = subst (λ m. IsSomeAnd m (λ d. IsMade before x Plain d after)) (sym found) is_made;
        cause = λ d _. tt;
        absent = λ _. tt;
        full = λ d _. tt;
        wants = λ _. tt;
        unchanged = tt;
      }
  put_writes (Err e) o size recorded room cause tables log =
      record {
        made = tt;
        cause = λ c found. change_refused before x c e o (refused_written w ts u.log x.terminal c e found cause);
        absent = λ none. row_absent before x (key_written w) e o
            (refused_absent w ts u.log x.terminal e none cause);
        full = λ c found same. full_so ts u.log ls x.terminal c size
            (refused_full w ts u.log x.terminal c e found cause same);
        wants = λ _ same. wants_row w ts u.log x.terminal e cause same;
        unchanged = λ i. view_from (tables i) (log i) ls;
      }

  -- behind what was asked for
  module _ (s : EngineState) (k : Ask Name Refusal) (o : IsOpen s x) (free : IsFree (view_of s) x.terminal k)
      (asked : view_of before ≡ with_ask x.terminal k (view_of s)) (stored : ts ≡ s.tables) (same : name ≡ s.name)
      (t : ℕ) (here : t ≡ x.terminal) (size : length u.log.terminals ≡ suc TERMINALS) where
    now : IsOpen before x
    now = still_open s before x k o asked same

    pub put_made : HasRecorded w ts ts' u u' t → HasRoomFor w (rows ts) u.log t → Writes s x k w (Ok tt) after
    put_made recorded room =
        made_behind s before after x k w o free asked stored same
        (put_writes (Ok tt) now size (subst (λ z. HasRecorded w ts ts' u u' z) here recorded)
        (subst (λ z. HasRoomFor w (rows ts) u.log z) here room) tt tt tt)

    pub put_refused : (e : Refusal) (s' : EngineState) → CantWrite w ts u.log t e → ts' ≡ ts → u'.log ≡ u.log
        → view_of s' ≡ view_of s → Writes s x k w (Err e) s'
    put_refused e s' cause tables log back =
        refused_behind s before after x k w o free asked stored same e s'
        (put_writes (Err e) now size tt tt (subst (λ z. CantWrite w ts u.log z e) here cause) tables log) back
