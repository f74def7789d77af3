-- Sets of terminals, by mark, one after another.
use Rattle.std.proofs.Common.{◌≡◌, ◌≢◌, ℕ, ◌<◌, ◌≤◌, ◌⊎◌, inl, inr, false, List, length, get_or, set, replicate}
use Rattle.std.proofs.Common.{sym, ap, ◌∙◌, subst}
use Rattle.std.proofs.lemmas.Bool.{cases_lt}
use Rattle.std.proofs.lemmas.List.{get_or_default, get_or-set_same, get_or-set_other, get_or-replicate}
use Rattle.std.proofs.lemmas.List.{length-replicate}
use Rattle.std.proofs.Math.ListN.{get_or-eq_default}
use Rattle.oe_locks.specs.Terminals.{has}
use Rattle.oe_locks.specs.Marks.{may_hold}
use Rattle.oe_locks.proofs.SetFacts.{has-zero}

-- behind the last set is nobody
pub nobody-behind : (sets : List ℕ) (k u : ℕ) → length sets ≤ k → may_hold sets k u ≡ false
nobody-behind sets k u past = ap (λ s. has s u) (get_or-eq_default sets 0 past) ∙ has-zero u

-- nobody is in sets of nobody
pub nobody-in : (n e k u : ℕ) → ((t : ℕ) → has e t ≡ false) → may_hold (replicate n e) k u ≡ false
nobody-in n e k u none = go (cases_lt k n)
  where
    go : (k < n) ⊎ (n ≤ k) → may_hold (replicate n e) k u ≡ false
    go (inl l) = ap (λ s. has s u) (get_or-replicate n k e 0 l) ∙ none u
    go (inr g) = nobody-behind (replicate n e) k u (subst (λ m. m ≤ k) (sym (length-replicate n e)) g)

-- one set has become another
module _ (sets : List ℕ) (i s : ℕ) (within : i < length sets) where
  pub set-here : (u : ℕ) → may_hold (set sets i s) i u ≡ has s u
  set-here u = ap (λ x. has x u) (get_or-set_same sets i s 0 within)

  pub set-there : (k u : ℕ) → k ≢ i → may_hold (set sets i s) k u ≡ may_hold sets k u
  set-there k u ne = ap (λ x. has x u) (get_or-set_other sets i k s 0 ne)

-- the set that is read there
pub read-here : (sets : List ℕ) (i s : ℕ) → i < length sets → s ≡ get_or sets i s → (u : ℕ)
    → has s u ≡ may_hold sets i u
read-here sets i s within is u = ap (λ x. has x u) (is ∙ sym (get_or_default sets i 0 s within))
