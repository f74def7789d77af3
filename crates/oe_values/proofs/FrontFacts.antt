-- What reading from the front finds, and that it finds what is spelled.
use Rattle.std.proofs.Common.{◌≡◌, ◌≢◌, ℕ, zero, suc, ◌+◌, ◌-◌, ◌*◌, ◌/◌, ◌%◌, ◌^◌, ◌<◌, ◌≤◌, ◌⊎◌, inl, inr, List, []}
use Rattle.std.proofs.Common.{◌∷◌, ◌++◌, Bool, true, false, not, ◌&&◌, cond, Option, Some, None, length, decimal}
use Rattle.std.proofs.Common.{nat_lt, nat_le, eqb, sym, ap, ◌∙◌, refl, append_assoc, arith, rules, le-leb, lt-ltb}
use Rattle.std.specs.Char.{is_ascii_digit}
use Rattle.std.proofs.lemmas.Bool.{leb-true}
use Rattle.std.proofs.lemmas.Bool.Decides.{nat_tests}
use Rattle.std.proofs.lemmas.Fmt.{decimal_digit, decimal_step, decimal_by_steps}
use Rattle.oe_values.specs.Stamp.{two_digits}
use Rattle.oe_values.specs.Front.{◌>>=◌, after_of, pair_of, digits_from, decimal_of, alone}

-- options

pub bind_some : {A B : Type 0} (o : Option A) (f : A → Option B) (y : B) → o >>= f ≡ Some y
    → (x : A) × (o ≡ Some x) × (f x ≡ Some y)
bind_some None f y e = cc
bind_some (Some x) f y e = (x, refl, e)

pub some_same : {A : Type 0} (x y : A) → Some x ≡ Some y → x ≡ y
some_same x y e = cc

pub chosen : {A : Type 0} (b : Bool) (x y z : A) → cond b x y ≡ z → ((b ≡ true) × (x ≡ z)) ⊎ ((b ≡ false) × (y ≡ z))
chosen true x y z e = inl (refl, e)
chosen false x y z e = inr (refl, e)

pub guarded : {A : Type 0} (b : Bool) (x : Option A) (z : A) → cond b x None ≡ Some z → (b ≡ true) × (x ≡ Some z)
guarded true x z e = (refl, e)
guarded false x z e = cc

pub both : (a b : Bool) → (a && b) ≡ true → (a ≡ true) × (b ≡ true)
both true b e = (refl, e)
both false b e = cc

pub alone_found : {A : Type 0} (x y : A) (s : List ℕ) → alone x s ≡ Some y → (s ≡ []) × (x ≡ y)
alone_found x y [] e = (refl, cc)
alone_found x y (b ∷ s) e = cc

-- the bytes at the front

pub after_of-short : (f s : List ℕ) → length s < length f → after_of f s ≡ None
after_of-short [] s h = absurd (omega arith)
after_of-short (f ∷ fs) [] h = refl
after_of-short (f ∷ fs) (b ∷ s) h = elim (eqb b f) as (λ t. cond t (after_of fs s) None ≡ None) [
  | true ↦ after_of-short fs s (omega arith)
  | false ↦ refl
]

pub after_found : (f s r : List ℕ) → after_of f s ≡ Some r → s ≡ f ++ r
after_found [] s r e = some_same s r e
after_found (f ∷ fs) [] r e = cc
after_found (f ∷ fs) (b ∷ s) r e =
    let g = guarded (eqb b f) (after_of fs s) r e in
    let same : b ≡ f = search (rules, g.0) in
    ap (λ x. x ∷ s) same ∙ ap (λ z. f ∷ z) (after_found fs s r g.1)

pub after_only : (f r : List ℕ) → after_of f (f ++ r) ≡ Some r
after_only [] r = refl
after_only (f ∷ fs) r = let same : eqb f f ≡ true = grind (arith, nat_tests) in rw same (after_only fs r)

-- digits

digit_range : (b : ℕ) → is_ascii_digit b ≡ true → (48 ≤ b) × (b ≤ 57)
digit_range b e =
    let r : (nat_le 48 b ≡ true) × (nat_le b 57 ≡ true) = both _ _ e in
    (leb-true 48 b r.0, leb-true b 57 r.1)

is_digit : (b : ℕ) → 48 ≤ b → b ≤ 57 → is_ascii_digit b ≡ true
is_digit b l u = rw (le-leb 48 b l, le-leb b 57 u) refl

two_same : (a b n : ℕ) → 48 ≤ a → a ≤ 57 → 48 ≤ b → b ≤ 57 → (a - 48) * 10 + (b - 48) ≡ n
    → (n < 100) × (a ≡ 48 + n / 10) × (b ≡ 48 + n % 10)
two_same a b n p q r s e = (omega arith, omega arith, omega arith)

pub pair_found : (s : List ℕ) (n : ℕ) (r : List ℕ) → pair_of s ≡ Some (n, r) → (s ≡ two_digits n ++ r) × (n < 100)
unfolding pair_of
pair_found [] n r e = cc
pair_found (a ∷ []) n r e = cc
pair_found (a ∷ b ∷ s) n r e =
    let g = guarded (is_ascii_digit a && is_ascii_digit b) (Some ((a - 48) * 10 + (b - 48), s)) (n, r) e in
    let d = both _ _ g.0 in
    let p = digit_range a d.0 in
    let q = digit_range b d.1 in
    let pair = some_same _ (n, r) g.1 in
    let t = two_same a b n p.0 p.1 q.0 q.1 (ap (λ (x : ℕ × List ℕ). x.0) pair) in
    let rest : s ≡ r = ap (λ (x : ℕ × List ℕ). x.1) pair in
    (ap (λ x. x ∷ b ∷ s) t.1 ∙ ap (λ y. (48 + n / 10) ∷ y ∷ s) t.2 ∙ ap (λ z. two_digits n ++ z) rest, t.0)

pub pair_only : (n : ℕ) (r : List ℕ) → n < 100 → pair_of (two_digits n ++ r) ≡ Some (n, r)
unfolding pair_of
pair_only n r h =
    let value : (48 + n / 10 - 48) * 10 + (48 + n % 10 - 48) ≡ n = omega arith in
    rw (is_digit (48 + n / 10) (omega arith) (omega arith), is_digit (48 + n % 10) (omega arith) (omega arith), value)
    refl

-- numbers

-- one digit more
decimal_more : (value b : ℕ) (s : List ℕ) → 0 < value → value < 10 ^ 14 → 48 ≤ b → b ≤ 57
    → decimal (value * 10 + (b - 48)) ++ s ≡ decimal value ++ b ∷ s
decimal_more value b s low high p q =
    let n = value * 10 + (b - 48) in
    let front : n / 10 ≡ value = omega arith in
    let last : 48 + n % 10 ≡ b = omega arith in
    let step = decimal_step n (omega arith) (omega arith) in
    ap (λ z. z ++ s) (rw (front, last) at step) ∙ append_assoc (decimal value) (b ∷ []) s

digits_found : (value : ℕ) (s : List ℕ) (n : ℕ) (r : List ℕ) → 0 < value → value < 10 ^ 15
    → digits_from value s ≡ Some (n, r) → (decimal value ++ s ≡ decimal n ++ r) × (n < 10 ^ 15)
digits_found value [] n r low high e =
    let pair = some_same (value, []) (n, r) e in
    let same : value ≡ n = ap (λ (x : ℕ × List ℕ). x.0) pair in
    (ap (λ (x : ℕ × List ℕ). decimal x.0 ++ x.1) pair, omega (arith, same))
digits_found value (b ∷ s) n r low high e =
    elim (chosen (is_ascii_digit b)
    (cond (nat_lt value 100_000_000_000_000) (digits_from (value * 10 + (b - 48)) s) None) (Some (value, b ∷ s))
    (Some (n, r)) e) [
      | inl h ↦
          let g = guarded (nat_lt value 100_000_000_000_000) (digits_from (value * 10 + (b - 48)) s) (n, r) h.1 in
          let room : value < 10 ^ 14 = search (arith, rules, g.0) in
          let d = digit_range b h.0 in
          let again = digits_found (value * 10 + (b - 48)) s n r (omega arith) (omega (arith, d.0, d.1)) g.1 in
          (sym (decimal_more value b s low room d.0 d.1) ∙ again.0, again.1)
      | inr h ↦
          let pair = some_same (value, b ∷ s) (n, r) h.1 in
          let same : value ≡ n = ap (λ (x : ℕ × List ℕ). x.0) pair in
          (ap (λ (x : ℕ × List ℕ). decimal x.0 ++ x.1) pair, omega (arith, same))
    ]

pub decimal_found : (s : List ℕ) (n : ℕ) (r : List ℕ) → decimal_of s ≡ Some (n, r)
    → (s ≡ decimal n ++ r) × (n < 10 ^ 15)
unfolding decimal_of
decimal_found [] n r e = cc
decimal_found (b ∷ s) n r e = elim (chosen (eqb b 48) (Some (0, s)) _ (Some (n, r)) e) [
  | inl h ↦
      let zero : b ≡ 48 = search (rules, h.0) in
      let pair = some_same (0, s) (n, r) h.1 in
      let same : 0 ≡ n = ap (λ (x : ℕ × List ℕ). x.0) pair in (
        ap (λ x. x ∷ s) zero ∙ ap (λ z. z ++ s) (sym (decimal_digit 0 (omega arith)))
            ∙ ap (λ (x : ℕ × List ℕ). decimal x.0 ++ x.1) pair,
        omega (arith, same),
      )
  | inr h ↦
      let g = guarded (is_ascii_digit b) (digits_from (b - 48) s) (n, r) h.1 in
      let d = digit_range b g.0 in
      let other : b ≢ 48 = search (rules, h.0) in
      let one = decimal_digit (b - 48) (omega (arith, d.1)) in
      let back : 48 + (b - 48) ≡ b = omega (arith, d.0) in
      let f = digits_found (b - 48) s n r (omega (arith, d.0, other)) (omega (arith, d.1)) g.1 in
      (ap (λ z. z ++ s) (sym (rw back at one)) ∙ f.0, f.1)
]

-- no digit stands at the front
abbrev pub ends : List ℕ → Bool
ends [] = true
ends (b ∷ s) = not (is_ascii_digit b)

digits_end : (n : ℕ) (r : List ℕ) → ends r ≡ true → digits_from n r ≡ Some (n, r)
digits_end n [] e = refl
digits_end n (b ∷ s) e = elim (is_ascii_digit b) as (λ t. not t ≡ true
    → cond t (cond (nat_lt n 100_000_000_000_000) (digits_from (n * 10 + (b - 48)) s) None) (Some (n, b ∷ s)) ≡ Some
    (n, b ∷ s)) [
      | true ↦ λ h. cc
      | false ↦ λ h. refl
    ] e

-- the digits of a number, but 0, are read up to those that follow
abbrev IsRead : ℕ → List ℕ → Type 0
IsRead n ds = 0 < n → n < 10 ^ 15 → (r : List ℕ) → decimal_of (ds ++ r) ≡ digits_from n r

read_first : (n : ℕ) → n < 10 → IsRead n ((48 + n) ∷ [])
unfolding decimal_of
read_first n h low high r =
    let other : eqb (48 + n) 48 ≡ false = grind (arith, nat_tests) in
    let value : 48 + n - 48 ≡ n = omega arith in
    rw (other, is_digit (48 + n) (omega arith) (omega arith), value) refl

read_more : (n : ℕ) (ds : List ℕ) → 10 ≤ n → IsRead (n / 10) ds → IsRead n (ds ++ ((48 + n % 10) ∷ []))
read_more n ds ten front low high r =
    let before = front (omega arith) (omega arith) ((48 + n % 10) ∷ r) in
    let value : n / 10 * 10 + (48 + n % 10 - 48) ≡ n = omega arith in
    let room : nat_lt (n / 10) 100_000_000_000_000 ≡ true = lt-ltb _ _ (omega arith) in
    ap decimal_of (append_assoc ds ((48 + n % 10) ∷ []) r) ∙ before
    ∙ rw (is_digit (48 + n % 10) (omega arith) (omega arith), room, value) refl

read_all : (n : ℕ) → n < 10 ^ 15 → IsRead n (decimal n)
read_all n h = decimal_by_steps IsRead read_first read_more n (omega arith)

decimal_zero : (r : List ℕ) → decimal_of (decimal 0 ++ r) ≡ Some (0, r)
unfolding decimal_of
decimal_zero r = rw (decimal_digit 0 (omega arith)) refl

pub decimal_only : (n : ℕ) (r : List ℕ) → n < 10 ^ 15 → ends r ≡ true → decimal_of (decimal n ++ r) ≡ Some (n, r)
decimal_only zero r h e = decimal_zero r
decimal_only (suc k) r h e = read_all (suc k) h (omega arith) h r ∙ digits_end (suc k) r e
