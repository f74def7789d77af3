-- What the calls of the undo log make of what an engine stands for.
use Rattle.std.proofs.Common.{◌≡◌, ℕ, suc, ◌<◌, ◌==◌, true, false, refl, sym, ap, ◌∙◌, inl, inr, [], length}
use Rattle.std.proofs.Common.{get_or, set}
use Rattle.std.specs.Prelude.{Option, None, Some, is_some, option_map}
use Rattle.std.proofs.lemmas.Bool.{cases_eq, cond-true, cond-false, eq-eqb, ne_eqb}
use Rattle.std.proofs.lemmas.List.{get_or-set_same, get_or-set_other}
use mathlib.Core.Path.{fun_ext}
use Rattle.oe_requests.specs.declared.requests.Request.{Request}
use Rattle.oe_requests.specs.declared.replies.Reply.{Reply}
use Rattle.oe_theory.specs.World as world
use Rattle.oe_rows.specs.declared.layouts.Layout.{Layout}
use Rattle.oe_model.specs.Locks.{mode_of}
use Rattle.oe_store.specs.Places.{rows}
use Rattle.oe_store.specs.Places as tables
use Rattle.oe_log.specs.Log.{SegmentLog, TerminalState, Open, idle, active_at, count_at, no_segments, idle_terminals}
use Rattle.oe_log.specs.Log.{with_state, with_segment, after_seal}
use Rattle.oe_log.proofs.LawFacts as stands
use Rattle.oe_log.proofs.LawFacts.{idle_at}
use Rattle.oe_log.proofs.StateFacts.{some_of}
use Rattle.oe_locks.specs.Held.{Holdings, OthersKeep, HoldsNothing, IsIdle}
use Rattle.oe_engine.specs.View.{view_from, opened_view}
use Rattle.oe_engine.specs.Calls.{after_begin, after_commit}
use Rattle.oe_engine.proofs.LockFacts.{held_of, released_is}

-- whether a terminal's segment is open, where its state was replaced
pub active_set : (u : SegmentLog) (t : ℕ) (s : TerminalState) → t < length u.terminals → (x : ℕ)
    → is_some (active_at (with_state u t s) x) ≡ world.set t (is_some s.active) (λ y. is_some (active_at u y)) x
active_set u t s within x =
    elim (cases_eq x t) [
      | inl e ↦ ap (λ y. is_some (get_or (set u.terminals t s) y idle).active) e
          ∙ ap (λ (z : TerminalState). is_some z.active) (get_or-set_same u.terminals t s idle within)
          ∙ sym (cond-true (x == t) (is_some s.active) (is_some (active_at u x)) (eq-eqb x t e))
      | inr ne ↦ ap (λ (z : TerminalState). is_some z.active) (get_or-set_other u.terminals t x s idle ne)
          ∙ sym (cond-false (x == t) (is_some s.active) (is_some (active_at u x)) (ne_eqb x t ne))
    ]

pub is_none : (a : Option Open) → is_some a ≡ false → a ≡ None
is_none None e = refl
is_none (Some o) e = cc

-- an engine in which nothing has begun
pub first_is : (ts : tables.Places) (n : ℕ) (l : Layout) (ls : Holdings) → IsIdle ls
    → view_from ts (no_segments n l) ls ≡ opened_view (rows ts) n l
unfolding view_from idle_terminals
first_is ts n l ls quiet =
    let b = stands.begun n l in
    let names : held_of ls ≡ (λ _ _. None) = fun_ext (λ t. fun_ext (λ q. ap (option_map mode_of) (quiet t q))) in
    let none : (λ (t : ℕ). is_some (active_at (no_segments n l) t)) ≡ (λ _. false) =
    fun_ext (λ t. ap (λ (z : TerminalState). is_some z.active) (idle_at 65 t)) in
    λ i. record {
      rows = rows ts;
      undo = b.0 i;
      seals = b.1 i;
      counts = b.2 i;
      held = names i;
      is_open = none i;
      extents = n;
      layout = l;
    }

-- a segment was opened
pub opened_is : (ts : tables.Places) (u : SegmentLog) (ls : Holdings) (t : ℕ) → t < length u.terminals
    → active_at u t ≡ None
    → view_from ts (with_segment u t) ls ≡ after_begin t (view_from ts u ls)
unfolding view_from
opened_is ts u ls t within closed =
    let s = stands.opens u t closed in
    let open_is : (x : ℕ) → is_some (active_at (with_segment u t) x)
    ≡ world.set t true (λ y. is_some (active_at u y)) x =
    active_set u t (record
    { count = count_at u t; active = Some (record { terminal = t; number = suc (count_at u t); records = [] }) })
    within in
    let opens : (λ (x : ℕ). is_some (active_at (with_segment u t) x))
    ≡ world.set t true (λ y. is_some (active_at u y)) =
    fun_ext open_is in
    λ i. record {
      rows = rows ts;
      undo = s.undo i;
      seals = s.seals i;
      counts = s.counts i;
      held = held_of ls;
      is_open = opens i;
      extents = u.extents;
      layout = u.layout;
    }

-- a segment was sealed, and its terminal's names were let go of
pub sealed_is : (ts : tables.Places) (u : SegmentLog) (ls ls' : Holdings) (t : ℕ) (q : Request) (y : Reply)
    → t < length u.terminals → is_some (active_at u t) ≡ true
    → HoldsNothing ls' t → OthersKeep ls ls' t → view_from ts (after_seal u t q y) ls'
    ≡ after_commit t q y (view_from ts u ls)
unfolding view_from
sealed_is ts u ls ls' t q y within is own others =
    let o = some_of (active_at u t) is in
    let s = stands.seals u t o.0 q y o.1 in
    let opens : (λ (x : ℕ). is_some (active_at (after_seal u t q y) x))
    ≡ world.set t false (λ x. is_some (active_at u x)) =
    fun_ext (active_set u t (record { count = suc (count_at u t); active = None }) within) in
    let names : held_of ls' ≡ world.set t (λ _. None) (held_of ls) = released_is ls ls' t own others in
    λ i. record {
      rows = rows ts;
      undo = s.undo i;
      seals = s.seals i;
      counts = s.counts i;
      held = names i;
      is_open = opens i;
      extents = u.extents;
      layout = u.layout;
    }
