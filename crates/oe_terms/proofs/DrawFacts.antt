-- What is drawn is in its range.
use Rattle.std.proofs.Common.{◌≡◌, ℕ, ◌+◌, ◌-◌, ◌≤◌, Bool, true, false, cond, refl, arith}
use Rattle.std.proofs.Math.Nat.{mod-lt}
use Rattle.std.specs.Prelude.{bit_or}
use Rattle.std.specs.Int.{IsInRange}
use Rattle.rand_pcg.specs.Lcg.{Lcg}
use Rattle.rand_pcg.specs.Pcg.{pcg32}
use Rattle.oe_terms.specs.Draws.{random, nurand}

pub random_in : (x y : ℕ) (g : Lcg) → x ≤ y → IsInRange x y (random x y g).0
random_in x y g le = let below = mod-lt (pcg32 g).0 {m = y - x + 1} (omega arith) in (omega arith, omega arith)

pub nurand_in : (a c x y : ℕ) (g : Lcg) → x ≤ y → IsInRange x y (nurand a c x y g).0
nurand_in a c x y g le =
    let below = mod-lt (bit_or (random 0 a g).0 (random x y (random 0 a g).1).0 + c) {m = y - x + 1} (omega arith) in
    (omega arith, omega arith)

-- of a choice holds what holds of both
pub either : {A : Type 0} (P : A → Type 0) (b : Bool) (u v : A) → (b ≡ true → P u) → (b ≡ false → P v) → P (cond b u v)
either P true u v f g = f refl
either P false u v f g = g refl
