-- What the open transactions of a core hold, and what they ask for next.
use Rattle.std.proofs.Common.{◌≡◌, ℕ, false, List, [], Option, None, Some, is_some, sym, ap, ◌∙◌, subst}
use Rattle.oe_theory.specs.Machine as theory
use Rattle.oe_theory.specs.Machine.{Tx, Hold}
use Rattle.oe_theory.specs.World.{Open, tx_of}
use Rattle.oe_theory.specs.Store.{open_of, open_in_slot}
use Rattle.oe_rows.specs.declared.locks.Name.{Name}
use Rattle.oe_requests.specs.declared.requests.Request.{Request}
use Rattle.oe_locks.specs.Listed.{stands}
use Rattle.oe_model.specs.Rows.{Rows}
use Rattle.oe_model.specs.System.{system, ask}
use Rattle.oe_engine.specs.View.{view_of, Handle, IsOpen}
use Rattle.oe_locks.specs.Holds.{lock_asked}
use Rattle.oe_machine.specs.Asks.{wanted_of, wanted_by, held_of, held_by}
use Rattle.oe_core.specs.Core.{CoreState, in_slot, work_of, slot_of, open_at, world_of, Works, IsOrderly}
use Rattle.oe_core.specs.Works.{WorkState}
use Rattle.oe_core.proofs.AuditFacts.{tables_are}

-- the transaction that stands in a terminal's slots
abbrev open_in : CoreState → ℕ → Option Handle → Option WorkState → Option (Open system)
open_in s t x w = open_of system ((view_of s.engine).undo.active t) (view_of s.engine).rows
    (open_at (view_of s.engine) t (work_of x w))

module _ (s : CoreState) (t : ℕ) where
  pub none_asks : in_slot s.txs t ≡ None → None ≡ wanted_by (world_of s) t
  unfolding world_of
  none_asks e = sym
      (ap (λ (z : Option Handle). wanted_of (world_of s) t (open_in s t z (in_slot s.works t))) e)

  pub open_asks : IsOrderly s → (x : Handle) (w : WorkState) (a : Option (Hold Name)) → in_slot s.txs t ≡ Some x
      → in_slot s.works t ≡ Some w → ((y : Tx Request) → a ≡ lock_asked (ask y w.position (view_of s.engine).rows))
      → a ≡ wanted_by (world_of s) t
  unfolding world_of
  open_asks o x w a e f h =
      let who = open_in_slot system ((view_of s.engine).undo.active t) (view_of s.engine).rows
      (slot_of (view_of s.engine) t w) in
      h (tx_of system t who) ∙ (ap (λ (r : Rows). lock_asked (ask (tx_of system t who) w.position r))
      (sym (tables_are s o))
      ∙ sym (ap (λ (z : Option Handle). wanted_of (world_of s) t (open_in s t z (in_slot s.works t))) e
      ∙ ap (λ (z : Option WorkState). wanted_of (world_of s) t (open_in s t (Some x) z)) f))

  pub none_holds : in_slot s.txs t ≡ None → (n : Name) → None ≡ held_by (world_of s) t n
  unfolding world_of
  none_holds e n = sym (ap (λ (z : Option Handle). held_of (open_in s t z (in_slot s.works t)) n) e)

  pub open_holds : IsOrderly s → (x : Handle) (a : Option theory.Mode) (n : Name) → in_slot s.txs t ≡ Some x
      → (IsOpen s.engine x → a ≡ (view_of s.engine).held x.terminal n) → a ≡ held_by (world_of s) t n
  unfolding world_of
  open_holds o x a n e h =
      go (in_slot s.works t) (subst (λ (z : Option Handle). Works s.engine t z (in_slot s.works t)) e (o.works t))
      ∙ sym (ap (λ (z : Option Handle). held_of (open_in s t z (in_slot s.works t)) n) e)
    where
      go : (w : Option WorkState) → Works s.engine t (Some x) w → a ≡ held_of (open_in s t (Some x) w) n
      go None k = absurd k
      go (Some w) k = h k.is_open ∙ ap (λ u. (view_of s.engine).held u n) k.terminal

  pub listed_held : IsOrderly s → (xs : List Name)
      → ((q : Name) → stands xs q ≡ is_some ((view_of s.engine).held t q))
      → ((view_of s.engine).is_open t ≡ false → xs ≡ []) → (q : Name)
      → stands xs q ≡ is_some (held_by (world_of s) t q)
  unfolding world_of
  listed_held o xs held idle q = go (in_slot s.txs t) (in_slot s.works t) (o.works t)
    where
      go : (x : Option Handle) (w : Option WorkState) → Works s.engine t x w
          → stands xs q ≡ is_some (held_of (open_in s t x w) q)
      go None w closed = ap (λ l. stands l q) (idle closed)
      go (Some x) None k = absurd k
      go (Some x) (Some w) k = held q
