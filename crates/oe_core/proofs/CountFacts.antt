-- What a core tells of its world: the oldest moment, how many transactions are open, and whether a terminal has one.
use Rattle.std.proofs.Common.{◌≡◌, ℕ, zero, suc, ◌-◌, Option, None, Some, refl, sym, ◌∙◌, length}
use Rattle.std.specs.Prelude.{◌↔◌, is_some}
use Rattle.oe_theory.specs.World.{Open, horizon, total}
use Rattle.oe_theory.specs.Next.{IsQuiet, count_open}
use Rattle.oe_theory.specs.Store.{Slot, open_of, count_slots}
use Rattle.oe_theory.proofs.StoreTheorems.{horizon_here}
use Rattle.oe_theory.proofs.StoreConditions.{conditions_are_exact}
use Rattle.oe_theory.proofs.StoreClosing.{store_is_orderly}
use Rattle.oe_model.specs.System.{system, terminal_limit}
use Rattle.oe_model.proofs.SystemLaws.{laws}
use Rattle.oe_engine.specs.View.{view_of, Handle}
use Rattle.oe_core.specs.Core.{CoreState, in_slot, work_of, open_at, store_of, world_of, Works, IsOrderly}
use Rattle.oe_core.specs.Works.{WorkState}
use Rattle.oe_core.proofs.MoveFacts.{standing}
use Rattle.oe_core.proofs.PastFacts.{taken_is}

pub horizon_is : (s : CoreState) → IsOrderly s
    → total terminal_limit (view_of s.engine).counts - length (view_of s.engine).seals ≡ horizon system (world_of s)
unfolding world_of
horizon_is s o = sym (horizon_here system laws (store_of s) (standing s o))

-- a slot has a transaction exactly where its terminal has one open in the world
pub open_is : (s : CoreState) → IsOrderly s → (t : ℕ) → is_some (in_slot s.txs t) ≡ is_some ((world_of s).active t)
unfolding world_of
open_is s o t = go (in_slot s.txs t) (in_slot s.works t) (o.works t)
  where
    go : (x : Option Handle) (w : Option WorkState) → Works s.engine t x w
        → is_some x ≡ is_some
        (open_of system ((view_of s.engine).undo.active t) (view_of s.engine).rows
        (open_at (view_of s.engine) t (work_of x w)))
    go None w h = refl
    go (Some x) None h = absurd h
    go (Some x) (Some w) h = refl

-- what the engine counts is what is open in the world
pub counted_is : (s : CoreState) → IsOrderly s → (n : ℕ)
    → ((slots : ℕ → Option (Slot system)) → ((t : ℕ) → is_some (slots t) ≡ (view_of s.engine).is_open t)
    → n ≡ count_slots system slots terminal_limit)
    → n ≡ count_open system (world_of s).active terminal_limit
unfolding world_of
counted_is s o n h =
    h (store_of s).slots (λ t. taken_is s.engine (view_of s.engine) t (in_slot s.txs t) (in_slot s.works t) refl
    (o.works t))
    ∙ sym (conditions_are_exact system laws (store_of s) (standing s o)).open_count

none_counted : (active : ℕ → Option (Open system)) → ((t : ℕ) → active t ≡ None) → (n : ℕ)
    → count_open system active n ≡ 0
none_counted active quiet zero = refl
none_counted active quiet (suc n) = rw (quiet n, count_open) (none_counted active quiet n)

-- a count of 0 says that nothing is open
pub quiet_is : (s : CoreState) → IsOrderly s → (n : ℕ) → n ≡ count_open system (world_of s).active terminal_limit
    → (n ≡ 0) ↔ IsQuiet system (world_of s)
unfolding world_of
quiet_is s o n h =
    let exact = conditions_are_exact system laws (store_of s) (standing s o) in (
      λ e. exact.quiet.1 ((store_is_orderly system laws (store_of s) (standing s o)).quiet
          (sym exact.open_count ∙ (sym h ∙ e))),
      λ q. h ∙ none_counted (world_of s).active q terminal_limit,
    )
