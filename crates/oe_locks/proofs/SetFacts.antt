-- Bits of a set of terminals.
use Rattle.std.proofs.Common.{◌≡◌, ◌≢◌, ℕ, suc, zero, ◌+◌, ◌*◌, ◌/◌, ◌%◌, ◌^◌, ◌<◌, ◌≤◌, min, ◌==◌, ◌&&◌, inl, inr}
use Rattle.std.proofs.Common.{Bool, true, false, if◌then◌else◌, Option, None, Some, IsSome, ◌↔◌, refl}
use Rattle.std.proofs.Common.{sym, ap, ◌∙◌, arith}
use Rattle.std.proofs.Common.{bit_and, bit_or, w64}
use Rattle.std.specs.Prelude.{IfSome, MatchOption}
use Rattle.std.specs.Int.{bit_at, bit_not, trailing_zeros}
use Rattle.std.proofs.lemmas.Bool.{cases_eq, cases_lt, cond-true, cond-false, eq-eqb, ne_eqb, false≢true}
use Rattle.std.proofs.lemmas.Nat.Bits.{shr_and_one, bit_at_and, bit_at_set_same, bit_at_set_other, bit_at_clear_same}
use Rattle.std.proofs.lemmas.Nat.Bits.{bit_at_clear_other, bit_at_above, bit_at-trailing_zeros, bit_at-zero}
use Rattle.oe_locks.specs.Terminals.{has, IsLeast}

-- the slot of the terminal t is k
module _ (n k t : ℕ) (within : k < 64) (slot : k + 1 ≡ t) where
  pub has-at : (bit_and (n / 2 ^ k) 1 == 1) ≡ has n t
  has-at = let at : suc k ≡ t = omega arith in ap (λ z. z == 1) (shr_and_one n k) ∙ ap (has n) at

  -- a bit at t's slot, and at another's
  here : (m : ℕ) (i : ℕ) (b : Bool) → i ≡ k → (bit_at m k == 1) ≡ b
      → has m (suc i) ≡ (if suc i == t then b else has n (suc i))
  here m i b s e =
      ap (λ z. bit_at m z == 1) s ∙ e ∙ sym (cond-true (suc i == t) b (has n (suc i)) (eq-eqb (suc i) t (omega arith)))

  elsewhere : (m : ℕ) (i : ℕ) (b : Bool) → i ≢ k → bit_at m i ≡ bit_at n i
      → has m (suc i) ≡ (if suc i == t then b else has n (suc i))
  elsewhere m i b ne e =
      let apart : suc i ≢ t = omega arith in
      ap (λ z. z == 1) e ∙ sym (cond-false (suc i == t) b (has n (suc i)) (ne_eqb (suc i) t apart))

  nobody : (m : ℕ) (b : Bool) → has m 0 ≡ (if 0 == t then b else has n 0)
  nobody m b = let apart : 0 ≢ t = omega arith in sym (cond-false (0 == t) b false (ne_eqb 0 t apart))

  pub has-with : (u : ℕ) → has (bit_or n (1 * 2 ^ k % 2 ^ 64)) u ≡ (if u == t then true else has n u)
  has-with zero = nobody (bit_or n (1 * 2 ^ k % 2 ^ 64)) true
  has-with (suc i) = elim (cases_eq i k) [
    | inl s ↦ here (bit_or n (1 * 2 ^ k % 2 ^ 64)) i true s (ap (λ z. z == 1) (bit_at_set_same w64 n k within))
    | inr ne ↦ elsewhere (bit_or n (1 * 2 ^ k % 2 ^ 64)) i true ne (bit_at_set_other w64 n k within i ne)
  ]

  cleared_above : (i : ℕ) → n < 2 ^ 64 → 64 ≤ i → bit_at (bit_and n (bit_not w64 (1 * 2 ^ k % 2 ^ 64))) i ≡ bit_at n i
  cleared_above i b l =
      let none : bit_at n i ≡ 0 = bit_at_above n 64 i b l in
      let least : bit_at (bit_and n (bit_not w64 (1 * 2 ^ k % 2 ^ 64))) i ≡ min (bit_at n i)
      (bit_at (bit_not w64 (1 * 2 ^ k % 2 ^ 64)) i) = bit_at_and n (bit_not w64 (1 * 2 ^ k % 2 ^ 64)) i in
      omega arith

  pub has-without : n < 2 ^ 64 → (u : ℕ) → has (bit_and n (bit_not w64 (1 * 2 ^ k % 2 ^ 64)))
      u ≡ (if u == t then false else has n u)
  has-without b zero = nobody (bit_and n (bit_not w64 (1 * 2 ^ k % 2 ^ 64))) false
  has-without b (suc i) = elim (cases_eq i k) [
    | inl s ↦ here (bit_and n (bit_not w64 (1 * 2 ^ k % 2 ^ 64))) i false s
        (ap (λ z. z == 1) (bit_at_clear_same w64 n k within))
    | inr ne ↦ elim (cases_lt i 64) [
      | inl l ↦ elsewhere (bit_and n (bit_not w64 (1 * 2 ^ k % 2 ^ 64))) i false ne
          (bit_at_clear_other w64 n k within i l ne)
      | inr l ↦ elsewhere (bit_and n (bit_not w64 (1 * 2 ^ k % 2 ^ 64))) i false ne (cleared_above i b l)
    ]
  ]

-- the terminals that are in both sets
pub has-both : (a b u : ℕ) → has (bit_and a b) u ≡ (has a u && has b u)
has-both a b zero = refl
has-both a b (suc i) =
    ap (λ z. z == 1) (bit_at_and a b i)
    ∙ least (bit_at a i) (bit_at b i) (omega arith) (omega arith)
  where
    least : (x y : ℕ) → x < 2 → y < 2 → (min x y == 1) ≡ ((x == 1) && (y == 1))
    least zero zero l m = refl
    least zero (suc zero) l m = refl
    least zero (suc (suc y)) l m = absurd (omega (arith, m))
    least (suc zero) zero l m = refl
    least (suc zero) (suc zero) l m = refl
    least (suc zero) (suc (suc y)) l m = absurd (omega (arith, m))
    least (suc (suc x)) y l m = absurd (omega (arith, l))

abbrev one_if : Bool → ℕ
one_if true = 1
one_if false = 0

-- how many of the first n terminals are in the set
unfoldable pub size : ℕ → ℕ → ℕ
size s zero = 0
size s (suc n) = one_if (has s (suc n)) + size s n

-- a set without one terminal of another
module _ (left rest t : ℕ) (is : (u : ℕ) → has rest u ≡ (if u == t then false else has left u)) where
  elsewhere_same : (u : ℕ) → u ≢ t → one_if (has rest u) ≡ one_if (has left u)
  elsewhere_same u ne = ap one_if
      (is u ∙ cond-false (u == t) false (has left u) (ne_eqb u t ne))

  size-below : (n : ℕ) → n < t → size rest n ≡ size left n
  unfolding size
  size-below zero l = refl
  size-below (suc n) l =
      let apart : suc n ≢ t = omega (arith, l) in
      ap (λ k. k + size rest n) (elsewhere_same (suc n) apart)
      ∙ ap (λ k. one_if (has left (suc n)) + k) (size-below n (omega (arith, l)))

  pub size-less : (n : ℕ) → 1 ≤ t → t ≤ n → has left t ≡ true → size rest n < size left n
  unfolding size
  size-less zero low high own = absurd (omega (arith, low, high))
  size-less (suc n) low high own = elim (cases_eq (suc n) t) [
    | inl s ↦
        let gone : one_if (has rest (suc n)) ≡ 0 = ap one_if
        (is (suc n) ∙ cond-true (suc n == t) false (has left (suc n)) (eq-eqb (suc n) t s)) in
        let there : one_if (has left (suc n)) ≡ 1 = ap one_if (ap (has left) s ∙ own) in
        let same = size-below n (omega (arith, s)) in
        omega (arith, gone, there, same)
    | inr ne ↦
        let bit = elsewhere_same (suc n) ne in
        let less = size-less n low (omega (arith, ne, high)) own in
        omega (arith, bit, less)
  ]

-- the empty set has no terminal
pub has-zero : (u : ℕ) → has 0 u ≡ false
has-zero zero = refl
has-zero (suc i) = ap (λ z. z == 1) (bit_at-zero i)

-- the terminal of the lowest bit is the least
pub least_is : (n v : ℕ) (o : Option ℕ) → 0 < n → n < 2 ^ 64 → trailing_zeros w64 n + 1 ≡ v
    → (IsSome o ↔ ((1 ≤ v) × (v ≤ 64))) → IfSome o (λ m. m ≡ v)
    → MatchOption o ((u : ℕ) → has n u ≡ false) (IsLeast n)
least_is n v None pos b e range is =
    let found = bit_at-trailing_zeros w64 n pos b in
    let low : 1 ≤ v = omega arith in
    let high : v ≤ 64 = omega (arith, found.0) in
    absurd (false≢true (range.1 (low, high)))
least_is n v (Some m) pos b e range is =
    record {
      in_set = ap (has n) at ∙ ap (λ z. z == 1) found.1;
      least = below;
    }
  where
    found : (trailing_zeros w64 n < 64) × (bit_at n (trailing_zeros w64 n) ≡ 1)
        × ((i : ℕ) → i < trailing_zeros w64 n → bit_at n i ≡ 0)
    found = bit_at-trailing_zeros w64 n pos b

    at : m ≡ suc (trailing_zeros w64 n)
    at = omega (arith, is, e)

    below : (u : ℕ) → u < m → has n u ≡ false
    below zero l = refl
    below (suc i) l = ap (λ z. z == 1) (found.2 i (omega (arith, at)))
