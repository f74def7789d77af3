-- Where ORIGINAL stands in a text.
use Rattle.std.specs.Prelude.{Bool, true, false, ◌||◌}
use Rattle.std.proofs.Common.{sym, ap, ◌≡◌, List, [], ◌∷◌, ℕ, suc, zero, ◌<◌, codes, length, drop, arith}
use Rattle.oe_values.specs.Text.{begins_with, occurs_in}

-- where it does not begin, it stands further on or nowhere
later : (b : Bool) (s : List ℕ) (i : ℕ) → i < length s → begins_with (codes "ORIGINAL") (drop i s) ≡ b
    → occurs_in (codes "ORIGINAL") (drop i s) ≡ (b || occurs_in (codes "ORIGINAL") (drop (suc i) s))
later b [] i within is = absurd (omega (arith, within))
later b (y ∷ ys) zero within is = ap (λ t. t || occurs_in (codes "ORIGINAL") ys) is
later b (y ∷ ys) (suc i) within is = later b ys i (omega (arith, within)) is

pub stands_later : (s : List ℕ) (i : ℕ) → i < length s → false ≡ begins_with (codes "ORIGINAL") (drop i s)
    → occurs_in (codes "ORIGINAL") (drop i s) ≡ occurs_in (codes "ORIGINAL") (drop (suc i) s)
stands_later s i within none = later false s i within (sym none)

pub stands_here : (s : List ℕ) (i : ℕ) → i < length s → true ≡ begins_with (codes "ORIGINAL") (drop i s)
    → occurs_in (codes "ORIGINAL") (drop i s) ≡ true
stands_here s i within there = later true s i within (sym there)
