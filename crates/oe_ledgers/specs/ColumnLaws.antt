-- Columns may be taken together in any order.
use Rattle.std.specs.Prelude.{◌≡◌, ℕ, Bool, true, false, min, max, ℤ, ◌+ℤ◌}
use Rattle.std.specs.Int.{int_wrap, w128, int_max}
use Rattle.std.proofs.Common.{arith, refl, sym, ◌∙◌, ap}
use Rattle.std.proofs.lemmas.Int.{int_wrap-add_left, int_wrap-add_right, clamps, ints}
use lib.IntN.{+ℤ_assoc, +ℤ_comm}
use Rattle.oe_ledgers.specs.Columns.{sum_up_to, sum_in_128_bits, either}

pub capped_associative : (m a b c : ℕ) → sum_up_to m (sum_up_to m a b) c ≡ sum_up_to m a (sum_up_to m b c)
capped_associative m a b c = omega arith

pub capped_commutative : (m a b : ℕ) → sum_up_to m a b ≡ sum_up_to m b a
capped_commutative m a b = omega arith

pub max_associative : (a b c : ℕ) → max (max a b) c ≡ max a (max b c)
max_associative a b c = omega arith

pub max_commutative : (a b : ℕ) → max a b ≡ max b a
max_commutative a b = omega arith

pub min_associative : (a b c : ℕ) → min (min a b) c ≡ min a (min b c)
min_associative a b c = omega arith

pub min_commutative : (a b : ℕ) → min a b ≡ min b a
min_commutative a b = omega arith

pub int_max_associative : (a b c : ℤ) → int_max (int_max a b) c ≡ int_max a (int_max b c)
int_max_associative a b c = omega (arith, ints, clamps)

pub int_max_commutative : (a b : ℤ) → int_max a b ≡ int_max b a
int_max_commutative a b = omega (arith, ints, clamps)

pub wrapped_associative : (a b c : ℤ) → sum_in_128_bits (sum_in_128_bits a b) c
    ≡ sum_in_128_bits a (sum_in_128_bits b c)
wrapped_associative a b c =
    int_wrap-add_left w128 (a +ℤ b) c ∙ ap (int_wrap w128) (+ℤ_assoc a b c) ∙ sym (int_wrap-add_right w128 a (b +ℤ c))

pub wrapped_commutative : (a b : ℤ) → sum_in_128_bits a b ≡ sum_in_128_bits b a
wrapped_commutative a b = ap (int_wrap w128) (+ℤ_comm a b)

pub either_associative : (a b c : Bool) → either (either a b) c ≡ either a (either b c)
either_associative true b c = refl
either_associative false b c = refl

pub either_commutative : (a b : Bool) → either a b ≡ either b a
either_commutative true true = refl
either_commutative true false = refl
either_commutative false true = refl
either_commutative false false = refl
