-- What each reading of a word finds, and that it finds what is spelled.
use Rattle.std.proofs.Common.{◌≡◌, ℕ, ◌+◌, ◌*◌, ◌/◌, ◌%◌, ◌^◌, ◌<◌, ◌≤◌, List, [], ◌∷◌, ◌++◌, true, ◌&&◌, Option, Some}
use Rattle.std.proofs.Common.{None, decimal, codes, nat_le, sym, ap, ◌∙◌, refl, append_assoc, append-nil, arith}
use Rattle.std.specs.Option.{option_map}
use Rattle.std.proofs.lemmas.Bool.{leb-true, le-leb}
use Rattle.std.proofs.lemmas.Slice.Eq.{bytes_eq-Decides}
use Rattle.oe_rows.specs.Credit.{money_text}
use Rattle.oe_values.specs.Front.{after_of, pair_of, decimal_of}
use Rattle.oe_values.specs.Stamp.{two_digits}
use Rattle.oe_values.proofs.FrontFacts.{bind_some, some_same, guarded, both, alone_found, after_found, after_only}
use Rattle.oe_values.proofs.FrontFacts.{pair_found, pair_only, ends, decimal_found, decimal_only}
use Rattle.oe_lines.specs.Words.{is_word, within, number_of, number_then, number_before, last_number, amount_before}

pub map_some : {A B : Type 0} (f : A → B) (o : Option A) (y : B) → option_map f o ≡ Some y
    → (x : A) × (o ≡ Some x) × (f x ≡ y)
map_some f None y e = cc
map_some f (Some x) y e = (x, refl, cc)

pub word_is : (a b : List ℕ) → is_word a b ≡ true → a ≡ b
unfolding is_word
word_is a b e = (bytes_eq-Decides a b).0 e

-- numbers

pub within_found : (low high m n : ℕ) → within low high m ≡ Some n → (m ≡ n) × (low ≤ n) × (n ≤ high)
within_found low high m n e =
    let g = guarded (nat_le low m && nat_le m high) (Some m) n e in
    let r : (nat_le low m ≡ true) × (nat_le m high ≡ true) = both _ _ g.0 in
    let same = some_same m n g.1 in
    let least = leb-true low m r.0 in
    let most = leb-true m high r.1 in
    (same, omega (arith, same, least), omega (arith, same, most))

pub within_only : (low high n : ℕ) → low ≤ n → n ≤ high → within low high n ≡ Some n
within_only low high n l u = rw (le-leb low n l, le-leb n high u) refl

pub number_found : (low high : ℕ) (s : List ℕ) (n : ℕ) (r : List ℕ) → number_of low high s ≡ Some (n, r)
    → (s ≡ decimal n ++ r) × (low ≤ n) × (n ≤ high)
unfolding number_of
number_found low high s n r e =
    let p = bind_some (decimal_of s) _ (n, r) e in
    let m = bind_some (within low high p.0.0) _ (n, r) p.2 in
    let f = decimal_found s p.0.0 p.0.1 p.1 in
    let w = within_found low high p.0.0 m.0 m.1 in
    let pair = some_same (m.0, p.0.1) (n, r) m.2 in
    let same : m.0 ≡ n = ap (λ (x : ℕ × List ℕ). x.0) pair in (
      f.0 ∙ ap (λ m. decimal m ++ p.0.1) w.0 ∙ ap (λ (x : ℕ × List ℕ). decimal x.0 ++ x.1) pair,
      omega (arith, same, w.1),
      omega (arith, same, w.2),
    )

pub number_only : (low high n : ℕ) (r : List ℕ) → high < 10 ^ 15 → (low ≤ n) × (n ≤ high) → ends r ≡ true
    → number_of low high (decimal n ++ r) ≡ Some (n, r)
unfolding number_of
number_only low high n r h range end = rw (decimal_only n r (omega arith) end, within_only low high n range.0 range.1)
    refl

pub then_found : (mark low high : ℕ) (s : List ℕ) (n : ℕ) (r : List ℕ) → number_then mark low high s ≡ Some (n, r)
    → (s ≡ decimal n ++ mark ∷ r) × (low ≤ n) × (n ≤ high)
unfolding number_then
then_found mark low high s n r e =
    let p = bind_some (number_of low high s) _ (n, r) e in
    let a = bind_some (after_of (mark ∷ []) p.0.1) _ (n, r) p.2 in
    let f = number_found low high s p.0.0 p.0.1 p.1 in
    let pair = some_same (p.0.0, a.0) (n, r) a.2 in
    let same : p.0.0 ≡ n = ap (λ (x : ℕ × List ℕ). x.0) pair in (
      f.0 ∙ ap (λ z. decimal p.0.0 ++ z) (after_found (mark ∷ []) p.0.1 a.0 a.1)
          ∙ ap (λ (x : ℕ × List ℕ). decimal x.0 ++ mark ∷ x.1) pair,
      omega (arith, same, f.1),
      omega (arith, same, f.2),
    )

pub then_only : (mark low high n : ℕ) (r : List ℕ) → high < 10 ^ 15 → (low ≤ n) × (n ≤ high) → ends (mark ∷ r) ≡ true
    → number_then mark low high (decimal n ++ mark ∷ r) ≡ Some (n, r)
unfolding number_then
then_only mark low high n r h range end = rw (number_only low high n (mark ∷ r) h range end, after_only (mark ∷ []) r)
    refl

pub before_found : (low high : ℕ) (s : List ℕ) (n : ℕ) (r : List ℕ) → number_before low high s ≡ Some (n, r)
    → (s ≡ decimal n ++ 32 ∷ r) × (low ≤ n) × (n ≤ high)
before_found low high s n r e = then_found 32 low high s n r e

pub before_only : (low high n : ℕ) (r : List ℕ) → high < 10 ^ 15 → (low ≤ n) × (n ≤ high)
    → number_before low high (decimal n ++ 32 ∷ r) ≡ Some (n, r)
before_only low high n r h range = then_only 32 low high n r h range refl

pub last_found : (low high : ℕ) (s : List ℕ) (n : ℕ) → last_number low high s ≡ Some n
    → (s ≡ decimal n) × (low ≤ n) × (n ≤ high)
unfolding last_number
last_found low high s n e =
    let p = bind_some (number_of low high s) _ n e in
    let f = number_found low high s p.0.0 p.0.1 p.1 in
    let end = alone_found p.0.0 n p.0.1 p.2 in (
      f.0 ∙ ap (λ z. decimal p.0.0 ++ z) end.0 ∙ append-nil (decimal p.0.0)
          ∙ ap decimal end.1,
      omega (arith, end.1, f.1),
      omega (arith, end.1, f.2),
    )

pub last_only : (low high n : ℕ) → high < 10 ^ 15 → (low ≤ n) × (n ≤ high) → last_number low high (decimal n) ≡ Some n
unfolding last_number
last_only low high n h range = rw (← append-nil (decimal n), number_only low high n [] h range refl) refl

-- money

money_same : (n whole rest : ℕ) → rest < 100 → whole * 100 + rest ≡ n → (whole ≡ n / 100) × (rest ≡ n % 100)
money_same n whole rest h e = (omega arith, omega arith)

pub amount_found : (low high : ℕ) (s : List ℕ) (n : ℕ) (r : List ℕ) → amount_before low high s ≡ Some (n, r)
    → (s ≡ money_text n ++ 32 ∷ r) × (low ≤ n) × (n ≤ high)
unfolding amount_before
amount_found low high s n r e =
    let w = bind_some (decimal_of s) _ (n, r) e in
    let a = bind_some (after_of (codes ".") w.0.1) _ (n, r) w.2 in
    let d = bind_some (pair_of a.0) _ (n, r) a.2 in
    let m = bind_some (within low high (w.0.0 * 100 + d.0.0)) _ (n, r) d.2 in
    let b = bind_some (after_of (codes " ") d.0.1) _ (n, r) m.2 in
    let whole = decimal_found s w.0.0 w.0.1 w.1 in
    let rest = pair_found a.0 d.0.0 d.0.1 d.1 in
    let range = within_found low high (w.0.0 * 100 + d.0.0) m.0 m.1 in
    let parts = money_same m.0 w.0.0 d.0.0 rest.1 range.0 in
    let pair = some_same (m.0, b.0) (n, r) b.2 in
    let same : m.0 ≡ n = ap (λ (x : ℕ × List ℕ). x.0) pair in
    let cents : a.0 ≡ two_digits d.0.0 ++ 32 ∷ b.0 = rest.0 ∙ ap (λ z. two_digits d.0.0 ++ z)
    (after_found (codes " ") d.0.1 b.0 b.1) in
    let point : w.0.1 ≡ 46 ∷ (two_digits d.0.0 ++ 32 ∷ b.0) = after_found (codes ".") w.0.1 a.0 a.1
    ∙ ap (λ z. 46 ∷ z) cents in (
      whole.0 ∙ ap (λ z. decimal w.0.0 ++ z) point
          ∙ ap (λ x. decimal x ++ (46 ∷ (two_digits d.0.0 ++ 32 ∷ b.0))) parts.0
          ∙ ap (λ y. decimal (m.0 / 100) ++ (46 ∷ (two_digits y ++ 32 ∷ b.0))) parts.1
          ∙ sym (append_assoc (decimal (m.0 / 100)) (46 ∷ two_digits (m.0 % 100)) (32 ∷ b.0))
          ∙ ap (λ (x : ℕ × List ℕ). money_text x.0 ++ 32 ∷ x.1) pair,
      omega (arith, same, range.1),
      omega (arith, same, range.2),
    )

pub amount_only : (low high n : ℕ) (r : List ℕ) → high < 10 ^ 15 → (low ≤ n) × (n ≤ high)
    → amount_before low high (money_text n ++ 32 ∷ r) ≡ Some (n, r)
unfolding amount_before
amount_only low high n r h range =
    let value : n / 100 * 100 + n % 100 ≡ n = omega arith in
    rw (
      append_assoc (decimal (n / 100)) (46 ∷ two_digits (n % 100)) (32 ∷ r),
      decimal_only (n / 100) (46 ∷ two_digits (n % 100) ++ 32 ∷ r) (omega arith) refl,
      pair_only (n % 100) (32 ∷ r) (omega arith),
      value,
      within_only low high n range.0 range.1,
    )
    refl
