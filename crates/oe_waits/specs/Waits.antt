-- Which open transaction waits for which, and a law of progress.
use Rattle.std.specs.Prelude.{◌≡◌, ◌↔◌, ℕ, ◌==◌, Bool, true, false, not, ◌&&◌, Option, None, Some}
use Rattle.oe_theory.specs.Machine as theory
use Rattle.oe_theory.specs.Machine.{Hold}
use Rattle.oe_theory.specs.World.{World, Open, go_together}
use Rattle.oe_theory.specs.Next.{Next, Advance, Busy}
use Rattle.oe_theory.specs.Theorems.{IsReached}
use Rattle.oe_values.specs.declared.numbers.TheConstants.{TERMINALS}
use Rattle.oe_rows.specs.declared.locks.Name.{Name}
use Rattle.oe_model.specs.System.{system}
use Rattle.oe_machine.specs.Asks.{wanted_by, held_by}
use Rattle.oe_waits.specs.Knots.{any_to, leads_through, are_knotted, is_least_knotted, Reaches, HasNoCycle}

-- what is asked for can't be had beside what is held
abbrev pub is_kept_out : Option (Hold Name) → (Name → Option theory.Mode) → Bool
is_kept_out None held = false
is_kept_out (Some h) held = not (go_together h.mode (held h.name))

-- terminal t waits for terminal u: its next stage asks for a name that u's transaction holds in a mode that conflicts
abbrev pub waits_for : World system → ℕ → ℕ → Bool
waits_for w t u = not (t == u) && is_kept_out (wanted_by w t) (held_by w u)

-- the greatest terminal; shut, so that no proof counts up to it
unfoldable pub last_terminal : ℕ
last_terminal = TERMINALS

-- terminal t waits for another
abbrev pub waits : World system → ℕ → Bool
waits w t = any_to (waits_for w t) last_terminal

-- t waits for u, at once or through others; so do both for one another; and t is the least of those in its cycle
abbrev pub waits_through : World system → ℕ → ℕ → Bool
waits_through w t u = leads_through (waits_for w) last_terminal t u

abbrev pub wait_in_cycle : World system → ℕ → ℕ → Bool
wait_in_cycle w t u = are_knotted (waits_for w) last_terminal t u

abbrev pub is_least_in_cycle : World system → ℕ → Bool
is_least_in_cycle w t = is_least_knotted (waits_for w) last_terminal t

-- a terminal waits exactly where its next Advance may be answered `Busy`
abbrev pub Waiting_is_busy : Type 0
Waiting_is_busy = (w : World system) (t : ℕ) → IsReached system w
    → (waits w t ≡ true) ↔ ((n : Name) × (u : ℕ) × Next system w (Advance t) (Busy n u) w)

-- one waits for another through others exactly where a chain of waits leads from the one to the other
abbrev pub Waits_are_chains : Type 0
Waits_are_chains = (w : World system) (t u : ℕ) → IsReached system w
    → (waits_through w t u ≡ true) ↔ Reaches (waits_for w) t u

-- where something is open and no terminal waits for itself, at once or through others, an open transaction does not
-- wait
abbrev pub Someone_goes_on : Type 0
Someone_goes_on =
    (w : World system) (t : ℕ) (o : Open system) → IsReached system w → HasNoCycle (waits_for w) → w.active t ≡ Some o
    → (u : ℕ) × (p : Open system) × (w.active u ≡ Some p) × (waits w u ≡ false)
