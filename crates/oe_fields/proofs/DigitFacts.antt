-- Digits that are read one after another spell the sum of the digits, each times its power of ten.
use Rattle.std.proofs.Common.{◌≡◌, ℕ, ◌+◌, ◌-◌, ◌*◌, ◌^◌, ◌<◌, ◌≤◌, List, [], ◌∷◌, length, true, false, cond}
use Rattle.std.proofs.Common.{Option, Some, None, nat_lt, sym, ap, ◌∙◌, refl, arith}
use native.Mathlib.Numerals.{unary_clauses}
use Rattle.std.specs.Char.{is_ascii_digit}
use Rattle.std.proofs.Common.{◌⊎◌, inl, inr, ⊎_elim}
use Rattle.std.proofs.lemmas.Bool.{cases_lt, lt-ltb, le-ltb}
use Rattle.std.proofs.Math.Nat.{one-le-pow, le-mul_of_pos_right}
use Rattle.oe_fields.specs.Spelling.{◌>>=◌, digits_of, behind_digits, sum_of_digits, whole_of, more_of, digits_from}

-- the number that goes on with these digits
abbrev value_from : ℕ → List ℕ → ℕ
value_from n s = n * 10 ^ length s + sum_of_digits s

-- such a number, where 64 bits hold it, and what is left
unfoldable number_and_rest : ℕ → List ℕ → Option (ℕ × List ℕ)
number_and_rest n s = cond (nat_lt n (2 ^ 64)) (Some (n, s)) None

power_more : (n d p v : ℕ) → (n * 10 + d) * p + v ≡ n * (p * 10) + (d * p + v)
power_more n d p v = omega arith

digit_more : (n d : ℕ) (s : List ℕ) → value_from (n * 10 + (d - 48)) s ≡ value_from n (d ∷ s)
digit_more n d s = simp unary_clauses (power_more n (d - 48) (10 ^ length s) (sum_of_digits s))

held_small : (n : ℕ) (s : List ℕ) → n < 2 ^ 64 → number_and_rest n s ≡ Some (n, s)
unfolding number_and_rest
held_small n s h = rw (lt-ltb n (2 ^ 64) h) refl

held_large : (n : ℕ) (s : List ℕ) → 2 ^ 64 ≤ n → number_and_rest n s ≡ None
unfolding number_and_rest
held_large n s h = rw (le-ltb n (2 ^ 64) h) refl

pub more_small : (n d : ℕ) → n * 10 + (d - 48) < 2 ^ 64 → more_of n d ≡ Some (n * 10 + (d - 48))
unfolding more_of
more_small n d h = rw (lt-ltb (n * 10 + (d - 48)) (2 ^ 64) h) refl

more_large : (n d : ℕ) → 2 ^ 64 ≤ n * 10 + (d - 48) → more_of n d ≡ None
unfolding more_of
more_large n d h = rw (le-ltb (n * 10 + (d - 48)) (2 ^ 64) h) refl

at_least : (n : ℕ) (s : List ℕ) → n ≤ value_from n s
at_least n s =
    omega (arith, le-mul_of_pos_right {m = 10 ^ length s} n (one-le-pow (length s) 10 (omega arith)))

value_none : (n : ℕ) → value_from n [] ≡ n
value_none n = omega arith

-- the digits at the front, behind a number
behind : (s : List ℕ) (n : ℕ) → n < 2 ^ 64
    → digits_from n s ≡ number_and_rest (value_from n (digits_of s)) (behind_digits s)
behind [] n h = sym (ap (λ v. number_and_rest v []) (value_none n) ∙ held_small n [] h)
behind (b ∷ s) n h =
    let m = n * 10 + (b - 48) in
    elim (is_ascii_digit b) as
    (λ t. cond t (more_of n b >>= λ m. digits_from m s) (Some (n, b ∷ s))
    ≡ number_and_rest (value_from n (cond t (b ∷ digits_of s) [])) (cond t (behind_digits s) (b ∷ s))) [
      | true ↦
          let same = digit_more n b (digits_of s) in
          let least = at_least m (digits_of s) in
          ⊎_elim
          (λ small. ap (λ o. o >>= λ m. digits_from m s) (more_small n b small) ∙ behind s m small
          ∙ ap (λ v. number_and_rest v (behind_digits s)) same)
          (λ large. ap (λ o. o >>= λ m. digits_from m s) (more_large n b large)
          ∙ sym (held_large _ (behind_digits s) (omega (arith, least, same, large))))
          (below_or m)
      | false ↦ sym (ap (λ v. number_and_rest v (b ∷ s)) (value_none n) ∙ held_small n (b ∷ s) h)
    ]
  where
    below_or : (m : ℕ) → (m < 2 ^ 64) ⊎ (2 ^ 64 ≤ m)
    below_or m = elim (cases_lt m (2 ^ 64)) [ inl h ↦ inl h | inr h ↦ inr h ]

value_zero : (s : List ℕ) → value_from 0 s ≡ sum_of_digits s
value_zero s = omega arith

pub whole_is : (s : List ℕ) → digits_from 0 s ≡ whole_of s
unfolding whole_of number_and_rest
whole_is s = behind s 0 (omega arith) ∙ ap (λ v. number_and_rest v (behind_digits s)) (value_zero (digits_of s))
