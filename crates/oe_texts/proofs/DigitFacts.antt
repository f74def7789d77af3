-- A number in decimal by two digits at a time.
use Rattle.std.proofs.Common.{◌≡◌, ℕ, List, ◌+◌, ◌/◌, ◌%◌, ◌^◌, ◌<◌, ◌≤◌, ◌++◌, ◌∷◌, [], decimal, length, refl, sym, ap}
use Rattle.std.proofs.Common.{◌∙◌, append_assoc, arith, length-append}
use Rattle.std.proofs.lemmas.Fmt.{decimal_digit, decimal_step, length-decimal-le}
use Rattle.oe_values.specs.Stamp.{two_digits}

pub decimal_two : (n : ℕ) → 10 ≤ n → n < 100 → decimal n ≡ two_digits n
decimal_two n low high =
    let front = decimal_digit (n / 10) (omega arith) in
    decimal_step n low (omega arith) ∙ ap (λ z. z ++ (48 + n % 10) ∷ []) front

pub decimal_more : (n : ℕ) → 100 ≤ n → n < 2 ^ 64 → decimal n ≡ decimal (n / 100) ++ two_digits (n % 100)
decimal_more n low high =
    let hundreds : n / 10 / 10 ≡ n / 100 = omega arith in
    let tens : n / 10 % 10 ≡ n % 100 / 10 = omega arith in
    let ones : n % 10 ≡ n % 100 % 10 = omega arith in
    let front = rw (hundreds, tens) at (decimal_step (n / 10) (omega arith) (omega arith)) in
    decimal_step n (omega arith) high
    ∙ ap (λ z. z ++ (48 + n % 10) ∷ []) front
    ∙ append_assoc (decimal (n / 100)) ((48 + n % 100 / 10) ∷ []) ((48 + n % 10) ∷ [])
    ∙ ap (λ d. decimal (n / 100) ++ (48 + n % 100 / 10) ∷ (48 + d) ∷ []) ones

-- their lengths

pub length_one : (n : ℕ) → n < 10 → length (decimal n) ≡ 1
length_one n h = rw (decimal_digit n h) refl

pub length_two : (n : ℕ) → 10 ≤ n → n < 100 → length (decimal n) ≡ 2
length_two n low high = rw (decimal_two n low high) refl

pub length_more : (n : ℕ) → 100 ≤ n → n < 2 ^ 64 → length (decimal n) ≡ length (decimal (n / 100)) + 2
length_more n low high = rw (decimal_more n low high) (simp length-append refl)

pub length_of_u32 : (n : ℕ) → n < 2 ^ 32 → length (decimal n) ≤ 10
length_of_u32 n h = length-decimal-le 10 n (omega arith) (omega arith) (omega arith)

pub length_of_u64 : (n : ℕ) → n < 2 ^ 64 → length (decimal n) ≤ 20
length_of_u64 n h = length-decimal-le 20 n (omega arith) (omega arith) h

-- two digits go on after the others
pub appended : (new front old : List ℕ) (n : ℕ) → 100 ≤ n → n < 2 ^ 64 → front ≡ old ++ decimal (n / 100)
    → new ≡ front ++ two_digits (n % 100) → new ≡ old ++ decimal n
appended new front old n low high e f =
    f ∙ ap (λ z. z ++ two_digits (n % 100)) e ∙ append_assoc old (decimal (n / 100)) (two_digits (n % 100))
    ∙ ap (λ z. old ++ z) (sym (decimal_more n low high))
