-- The last replies of all terminals.
use Rattle.std.proofs.Common.{◌≡◌, ◌≢◌, ℕ, ◌<◌, inl, inr, List, Option, Some, None, length, slice_set, get_or, sym, ap}
use Rattle.std.proofs.Common.{◌∙◌}
use Rattle.std.specs.Prelude.{◌⊎◌}
use Rattle.std.proofs.lemmas.Bool.{cases_eq}
use mathlib.Core.Path.{fun_ext}
use Rattle.oe_theory.specs.World.{set}
use Rattle.oe_theory.proofs.Sets.{set_same, set_other}
use Rattle.oe_requests.specs.declared.replies.Reply.{Reply}
use Rattle.oe_engine.specs.View.{Handle}
use Rattle.oe_engine.specs.View as engine
use Rattle.oe_core.specs.Core.{in_slot, reply_left, last_reply}
use Rattle.oe_core.specs.Works.{WorkState}
use Rattle.oe_core.proofs.SlotFacts.{slot_set}

-- by two functions of slots
abbrev replies : (ℕ → Option Handle) → (ℕ → Option WorkState) → ℕ → Option Reply
replies f g = λ t. reply_left (f t) (g t)

both_set : (f : ℕ → Option Handle) (g : ℕ → Option WorkState) (t : ℕ) (x : Option Handle) (w : Option WorkState)
    → replies (set t x f) (set t w g) ≡ set t (reply_left x w) (replies f g)
both_set f g t x w = fun_ext (λ u. each u (cases_eq u t))
  where
    each : (u : ℕ) → (u ≡ t) ⊎ (u ≢ t)
        → reply_left (set t x f u) (set t w g u) ≡ set t (reply_left x w) (replies f g) u
    each u (inl e) =
        (λ i. reply_left (set_same t x f u e i) (set_same t w g u e i))
        ∙ sym (set_same t (reply_left x w) (replies f g) u e)
    each u (inr n) =
        (λ i. reply_left (set_other t x f u n i) (set_other t w g u n i))
        ∙ sym (set_other t (reply_left x w) (replies f g) u n)

-- what two slots of a terminal leave of the replies, where both are set
pub both_slots : (e e' : engine.EngineState) (xs : List (Option Handle)) (ws : List (Option WorkState)) (t : ℕ)
    (x : Option Handle) (w : Option WorkState) → t < length xs → t < length ws
    → last_reply (record { engine = e'; txs = slice_set xs t x; works = slice_set ws t w })
    ≡ set t (reply_left x w) (last_reply (record { engine = e; txs = xs; works = ws }))
both_slots e e' xs ws t x w h k =
    (λ i. replies (slot_set xs t x None h i) (slot_set ws t w None k i))
    ∙ both_set (in_slot xs) (in_slot ws) t x w

-- where the first stays an open transaction, nothing is left or told
pub still_open : (e e' : engine.EngineState) (xs : List (Option Handle)) (ws : List (Option WorkState)) (t : ℕ)
    (x : Handle) (w : Option WorkState) → in_slot xs t ≡ Some x → t < length ws
    → last_reply (record { engine = e'; txs = xs; works = slice_set ws t w })
    ≡ last_reply (record { engine = e; txs = xs; works = ws })
still_open e e' xs ws t x w here k = fun_ext (λ u. each u (cases_eq u t))
  where
    g : (λ (i : ℕ). get_or (slice_set ws t w) i None) ≡ set t w (in_slot ws)
    g = slot_set ws t w None k

    each : (u : ℕ) → (u ≡ t) ⊎ (u ≢ t)
        → reply_left (in_slot xs u) (in_slot (slice_set ws t w) u) ≡ reply_left (in_slot xs u) (in_slot ws u)
    each u (inl same) =
        let there : in_slot xs u ≡ Some x = ap (in_slot xs) same ∙ here in
        ap (λ o. reply_left o (in_slot (slice_set ws t w) u)) there
        ∙ sym (ap (λ o. reply_left o (in_slot ws u)) there)
    each u (inr other) =
        ap (λ o. reply_left (in_slot xs u) o) (ap (λ f. f u) g ∙ set_other t w (in_slot ws) u other)
