-- The sets that are found are of those that wait through others.
use Rattle.std.proofs.Common.{◌≡◌, ℕ, zero, suc, ◌-◌, ◌≤◌, Bool, true, List, [], refl, ap, arith}
use Rattle.std.specs.Prelude.{◌&&◌, cond}
use Rattle.oe_theory.specs.World.{World}
use Rattle.oe_theory.specs.Theorems.{IsReached}
use Rattle.oe_model.specs.System.{system}
use Rattle.oe_waits.specs.declared.reaching.Way.{Way}
use Rattle.oe_waits.specs.declared.reaching.Way.TheVariants as way
use Rattle.oe_waits.specs.Knots.{any_to, Reaches}
use Rattle.oe_waits.specs.Waits.{waits_for, last_terminal, waits_through, wait_in_cycle, is_least_in_cycle}
use Rattle.oe_waits.specs.Reaching.{leads, leads_through, is_in, is_least_in, line_in}
use Rattle.oe_waits.specs.Texts.{terminal_text, texts_to, cycle_line}
use Rattle.oe_waits.proofs.KnotFacts.{IsTo, leads_reaches, reaches_leads}
use Rattle.oe_waits.proofs.WaitFacts.{waits_inside, waiter_inside}
use Rattle.oe_waits.proofs.SetFacts.{IsClosing, closing_last, reaches_back, same_truth}

inside_64 : (u : ℕ) → IsTo last_terminal u → IsTo 64 u
unfolding last_terminal
inside_64 u h = h

leads_inside : (w : World system) → IsReached system w → (y : Way) (t u : ℕ) → leads w y t u ≡ true → IsTo 64 u
leads_inside w r way.Ahead t u e = inside_64 u (waits_inside w r t u e)
leads_inside w r way.Back t u e = inside_64 u (waiter_inside w r u t e)

-- a chain either way is a wait through others
through : (w : World system) → IsReached system w → (y : Way) (t u : ℕ) → Reaches (leads w y) t u
    → leads_through w y t u ≡ true
through w r way.Ahead t u h = reaches_leads (waits_for w) last_terminal (waits_inside w r) t u h
through w r way.Back t u h = reaches_leads (waits_for w) last_terminal (waits_inside w r) u t
    (reaches_back (waits_for w) t h.0 u h.1)

chained : (w : World system) (y : Way) (t u : ℕ) → leads_through w y t u ≡ true → Reaches (leads w y) t u
chained w way.Ahead t u e = leads_reaches (waits_for w) last_terminal t u e
chained w way.Back t u e =
    let h = leads_reaches (waits_for w) last_terminal u t e in reaches_back (λ a b. waits_for w b a) u h.0 t h.1

pub found_is : (w : World system) → IsReached system w → (y : Way) (t : ℕ) (found done : List Bool)
    → IsClosing (leads w y) t found done
    → ((u : ℕ) → 1 ≤ u → u ≤ 64 → is_in found u ≡ true → is_in done u ≡ true)
    → (u : ℕ) → 1 ≤ u → u ≤ 64 → is_in found u ≡ leads_through w y t u
found_is w r y t found done c all u low high =
    same_truth (is_in found u) (leads_through w y t u) (λ e. through w r y t u (c.sound u low high e))
    (λ e. let h = chained w y t u e in closing_last (leads w y) t found done c (leads_inside w r y) all h.0 u h.1)

-- tests and texts that agree on the numbers 1 to n
any_same : (f g : ℕ → Bool) (n : ℕ) → ((u : ℕ) → 1 ≤ u → u ≤ n → f u ≡ g u) → any_to f n ≡ any_to g n
any_same f g zero h = refl
any_same f g (suc n) h = rw (
  any_same f g n (λ u low high. h u low (omega (arith, high))),
  h (suc n) (omega arith)
      (omega arith),
) refl

texts_same : (f g : ℕ → List ℕ) (n : ℕ) → ((u : ℕ) → 1 ≤ u → u ≤ n → f u ≡ g u) → texts_to f n ≡ texts_to g n
texts_same f g zero h = refl
texts_same f g (suc n) h = rw (
  texts_same f g n (λ u low high. h u low (omega (arith, high))),
  h (suc n) (omega arith)
      (omega arith),
) refl

module _ (w : World system) (ahead back : List Bool) (t : ℕ) (within : IsTo 64 t)
    (before : (u : ℕ) → 1 ≤ u → u ≤ 64 → is_in ahead u ≡ waits_through w t u)
    (behind : (u : ℕ) → 1 ≤ u → u ≤ 64 → is_in back u ≡ waits_through w u t) where
  both : (u : ℕ) → 1 ≤ u → u ≤ 64 → (is_in ahead u && is_in back u) ≡ wait_in_cycle w t u
  both u low high = rw (before u low high, behind u low high) refl

  pub least_is : is_least_in ahead back t ≡ is_least_in_cycle w t
  least_is =
      rw (
        before t within.0 within.1,
        any_same (λ u. is_in ahead u && is_in back u) (wait_in_cycle w t) (t - 1)
            (λ u low high. both u low (omega (arith, high, within.1))),
      ) refl

  members_are : texts_to (λ u. cond (is_in ahead u && is_in back u) (terminal_text u) []) last_terminal
      ≡ texts_to (λ u. cond (wait_in_cycle w t u) (terminal_text u) []) last_terminal
  members_are = texts_same _ _ last_terminal
      (λ u low high. ap (λ b. cond b (terminal_text u) []) (both u low (inside_64 u (low, high)).1))

  pub line_is : line_in ahead back t ≡ cycle_line w t
  line_is = rw (least_is, members_are) refl
