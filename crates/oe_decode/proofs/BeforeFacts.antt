-- Masks, and the columns that they say are there, are read exactly.
use Rattle.std.proofs.Common.{◌≡◌, ℕ, zero, suc, ◌+◌, ◌-◌, ◌*◌, ◌/◌, ◌%◌, ◌^◌, ◌<◌, ◌≤◌, ◌==◌, Bool, true, false}
use Rattle.std.proofs.Common.{cond}
use Rattle.std.proofs.Common.{List, [], ◌∷◌, ◌++◌, length, Option, None, Some, refl, sym, ap, ◌∙◌, subst, arith}
use Rattle.std.proofs.Common.{one-mul}
use Rattle.std.proofs.Common.{pow_pos, pow_mono, pow-suc, mod-lt, mod-eq_of_lt, div-add-mod', le-leb, leb-true}
use Rattle.std.proofs.Common.{leb-false, eqb-true}
use Rattle.std.proofs.Common.{eq-eqb}
use Rattle.std.specs.Prelude.{is_some, nat_le, IfSome}
use Rattle.std.proofs.lemmas.Nat.{mod-mul-add, div-mul-add, shr_below}
use Rattle.std.proofs.Math.Pow.{mod-mod-pow}
use Rattle.oe_extent.specs.Images.{number, number_at}
use Rattle.oe_image.specs.Before.{binary, mask, image_where_there as kept_image}
use Rattle.oe_image.proofs.MaskFacts.{binary_small, in_bytes, bytes_wide}
use Rattle.oe_decode.specs.Fronts.{IsBytes, front_where, front_as}
use Rattle.oe_decode.specs.ColumnFronts.{present}
use Rattle.oe_decode.specs.BeforeFronts.{digits, bit, mask_at, kept_at}
use Rattle.oe_decode.specs.Codec.{IsCodec, Takes}
use Rattle.oe_decode.specs.FrontFacts.{some_is, seen_some, kept_some, number_law}

-- ---- columns that are there or not

-- a column that is there exactly where the bit says so, in its range
abbrev pub IsKept : {X : Type 0} → (X → Type 0) → Bool → Option X → Type 0
IsKept Fits b o = (is_some o ≡ b) × IfSome o Fits

pub kept_column : {X : Type 0} {Fits : X → Type 0} {image : X → List ℕ} {at : List ℕ → Option (X × List ℕ)} (b : Bool)
    → IsCodec Fits image at → IsCodec (IsKept Fits b) (kept_image image) (kept_at b at)
kept_column {X = X} {Fits = Fits} {image = image} {at = at} false law = record {
  takes = λ bytes x fits e.
      subst (λ (p : Option X × List ℕ). IsKept Fits false p.0 × Takes bytes (kept_image image p.0) p.1)
      (some_is (None, bytes) x e)
      ((refl, tt), record { parts = refl; rest_fits = fits });
  again = λ v rest h. go v rest h;
}
  where
    go : (v : Option X) (rest : List ℕ) → IsKept Fits false v
        → kept_at false at (kept_image image v ++ rest) ≡ Some (v, rest)
    go None rest h = refl
    go (Some x) rest h = let no : ⊥ = cc in absurd no
kept_column {X = X} {Fits = Fits} {image = image} {at = at} true law = record {
  takes = λ bytes x fits e. found bytes (at bytes) refl x fits e;
  again = λ v rest h. go v rest h;
}
  where
    found : (bytes : List ℕ) (r : Option (X × List ℕ)) → at bytes ≡ r → (x : Option X × List ℕ) → IsBytes bytes
        → present r ≡ Some x
        → IsKept Fits true x.0 × Takes bytes (kept_image image x.0) x.1
    found bytes None q x fits e = absurd cc
    found bytes (Some y) q x fits e =
        let t = law.takes bytes y fits q in
        subst (λ (p : Option X × List ℕ). IsKept Fits true p.0 × Takes bytes (kept_image image p.0) p.1)
        (some_is (Some y.0, y.1) x e) ((refl, t.0), t.1)

    go : (v : Option X) (rest : List ℕ) → IsKept Fits true v
        → kept_at true at (kept_image image v ++ rest) ≡ Some (v, rest)
    go None rest h = let no : ⊥ = cc in absurd no
    go (Some x) rest h = ap present (law.again x rest h.1)

-- ---- masks

pub digits_long : (k n : ℕ) → length (digits k n) ≡ k
unfolding digits
digits_long zero n = refl
digits_long (suc k) n = ap suc (digits_long k (n % 2 ^ k))

not_le : (p r : ℕ) → r < p → nat_le p r ≡ false
not_le p r h = go (nat_le p r) refl
  where
    go : (b : Bool) → nat_le p r ≡ b → nat_le p r ≡ false
    go false e = e
    go true e = absurd (omega (arith, h, leb-true p r e))

cond_le : (b : Bool) (p r : ℕ) → r < p → nat_le p (cond b p 0 + r) ≡ b
cond_le true p r h = le-leb p (p + r) (omega (arith))
cond_le false p r h = not_le p (0 + r) (omega (arith, h))

-- digits are those of their number
pub digits_back : (bs : List Bool) → digits (length bs) (binary bs) ≡ bs
unfolding digits
digits_back [] = refl
digits_back (b ∷ bs) = go b (binary_small bs) (digits_back bs)
  where
    p : ℕ
    p = 2 ^ length bs

    left : (b : Bool) → binary bs < p → (cond b p 0 + binary bs) % p ≡ binary bs
    left true h = ap (λ n. (n + binary bs) % p) (sym (one-mul p)) ∙ mod-mul-add 1 p (binary bs) h
    left false h =
        let plain : 0 + binary bs ≡ binary bs = omega arith in
        ap (λ n. n % p) plain ∙ mod-eq_of_lt h

    go : (b : Bool) → binary bs < p → digits (length bs) (binary bs) ≡ bs
        → nat_le p (cond b p 0 + binary bs) ∷ digits (length bs) ((cond b p 0 + binary bs) % p) ≡ b ∷ bs
    go b h rest =
        ap (λ t. t ∷ digits (length bs) ((cond b p 0 + binary bs) % p)) (cond_le b p (binary bs) h)
        ∙ ap (λ n. b ∷ digits (length bs) n) (left b h) ∙ ap (λ z. b ∷ z) rest

-- and a number is that of its digits
pub number_again : (k n : ℕ) → n < 2 ^ k → binary (digits k n) ≡ n
unfolding digits
number_again zero n h = omega (arith, h)
number_again (suc k) n h = go (nat_le (2 ^ k) n) refl (number_again k (n % 2 ^ k) (mod-lt n (pow_pos k)))
    (pow-suc 2 k) (digits_long k (n % 2 ^ k))
  where
    go : (b : Bool) → nat_le (2 ^ k) n ≡ b → binary (digits k (n % 2 ^ k)) ≡ n % 2 ^ k → 2 ^ suc k ≡ 2 ^ k * 2
        → length (digits k (n % 2 ^ k)) ≡ k
        → cond b (2 ^ length (digits k (n % 2 ^ k))) 0 + binary (digits k (n % 2 ^ k)) ≡ n
    go true e rest double long =
        let more : 2 ^ k ≤ n = leb-true (2 ^ k) n e in
        let wide : 2 ^ length (digits k (n % 2 ^ k)) ≡ 2 ^ k = ap (λ j. 2 ^ j) long in
        let less : n - 2 ^ k < 2 ^ k = omega (arith, h, double, more) in
        let whole : 1 * 2 ^ k + (n - 2 ^ k) ≡ n = omega (arith, more, one-mul (2 ^ k)) in
        let left : n % 2 ^ k ≡ n - 2 ^ k = ap (λ j. j % 2 ^ k) (sym whole) ∙ mod-mul-add 1 (2 ^ k) (n - 2 ^ k) less in
        omega (arith, rest, wide, left, more)
    go false e rest double long =
        let less : n < 2 ^ k = leb-false (2 ^ k) n e in
        omega (arith, rest, mod-eq_of_lt less)

-- a mask of so many columns
pub mask_law : (width count : ℕ) → count ≤ 8 * width → width ≤ 3
    → IsCodec (λ bs. length bs ≡ count) (mask width) (mask_at width count)
mask_law width count few short = record {
  takes = λ bytes x fits e. found bytes x fits e;
  again = λ bs rest long. back bs rest long;
}
  where
    s : ℕ
    s = 8 * width - count

    found : (bytes : List ℕ) (x : List Bool × List ℕ) → IsBytes bytes → mask_at width count bytes ≡ Some x
        → (length x.0 ≡ count) × Takes bytes (mask width x.0) x.1
    found bytes x fits e =
        let a = seen_some (λ n. digits count (n / 2 ^ s))
        (front_where (λ n. n % 2 ^ s == 0) (number_at width bytes)) x e in
        let b = kept_some (λ n. n % 2 ^ s == 0) (number_at width bytes) a.0 a.1 in
        let t = (number_law width).takes bytes a.0 fits b.0 in
        let n = a.0.0 in
        let none : n % 2 ^ s ≡ 0 = eqb-true (n % 2 ^ s) 0 b.1 in
        let long : length (digits count (n / 2 ^ s)) ≡ count = digits_long count (n / 2 ^ s) in
        let full : count + s ≡ 8 * width = omega (arith, few) in
        let whole : 2 ^ (count + s) ≡ 256 ^ width = ap (λ n. 2 ^ n) full ∙ sym (bytes_wide width short) in
        let less : n / 2 ^ s < 2 ^ count = shr_below n count s (omega (arith, t.0, whole)) in
        let value : binary (digits count (n / 2 ^ s)) ≡ n / 2 ^ s = number_again count (n / 2 ^ s) less in
        let same : binary (digits count (n / 2 ^ s)) * 2 ^ (8 * width - length (digits count (n / 2 ^ s))) ≡ n =
        ap (λ v. v * 2 ^ (8 * width - length (digits count (n / 2 ^ s)))) value
        ∙ (ap (λ c. n / 2 ^ s * 2 ^ (8 * width - c)) long ∙ omega (arith, div-add-mod' n (2 ^ s), none)) in
        subst (λ (p : List Bool × List ℕ). (length p.0 ≡ count) × Takes bytes (mask width p.0) p.1)
        (λ i. (a.2 i, a.3 i))
        (long, subst (λ v. Takes bytes (number width v) a.0.1) (sym same) t.1)

    back : (bs : List Bool) (rest : List ℕ) → length bs ≡ count
        → mask_at width count (mask width bs ++ rest) ≡ Some (bs, rest)
    back bs rest long =
        let x = binary bs * 2 ^ (8 * width - length bs) in
        let at_end : x ≡ binary bs * 2 ^ s = ap (λ c. binary bs * 2 ^ (8 * width - c)) long in
        let room : length bs ≤ 8 * width = omega (arith, long, few) in
        let r = (number_law width).again x rest (in_bytes (binary bs) (length bs) width
        (binary_small bs) room short) in
        let plain : binary bs * 2 ^ s ≡ binary bs * 2 ^ s + 0 = omega arith in
        let none : x % 2 ^ s ≡ 0 =
        ap (λ n. n % 2 ^ s) (at_end ∙ plain) ∙ mod-mul-add (binary bs) (2 ^ s) 0 (pow_pos s) in
        let whole : x / 2 ^ s ≡ binary bs =
        ap (λ n. n / 2 ^ s) (at_end ∙ plain) ∙ div-mul-add (binary bs) (2 ^ s) 0 (pow_pos s) in
        let same : digits count (x / 2 ^ s) ≡ bs =
        ap (digits count) whole ∙ (ap (λ c. digits c (binary bs)) (sym long) ∙ digits_back bs) in
        ap (λ o. front_as (λ n. digits count (n / 2 ^ s)) (front_where (λ n. n % 2 ^ s == 0) o)) r
        ∙ (ap (λ b. front_as {X = ℕ} (λ n. digits count (n / 2 ^ s)) (cond b (Some (x, rest)) None))
        (eq-eqb (x % 2 ^ s) 0 none)
        ∙ ap (λ z. Some (z, rest)) same)

-- the i-th of k digits
pub digit_is : (k n i : ℕ) → i < k → n < 2 ^ k → bit (digits k n) i ≡ nat_le (2 ^ (k - 1 - i)) (n % 2 ^ (k - i))
unfolding digits bit
digit_is zero n i h small = absurd (omega (arith, h))
digit_is (suc k) n zero h small =
    let place : k ≡ suc k - 1 - 0 = omega arith in
    let size : suc k ≡ suc k - 0 = omega arith in
    ap (nat_le (2 ^ k)) (sym (mod-eq_of_lt small)) ∙ (λ z. nat_le (2 ^ place z) (n % 2 ^ size z))
digit_is (suc k) n (suc i) h small =
    let less : i < k = omega (arith, h) in
    let split : i + (k - i) ≡ k = omega (arith, less) in
    let place : k - 1 - i ≡ suc k - 1 - suc i = omega (arith, less) in
    let size : k - i ≡ suc k - suc i = omega (arith, less) in
    let inner : n % 2 ^ k % 2 ^ (k - i) ≡ n % 2 ^ (k - i) =
    ap (λ j. n % 2 ^ j % 2 ^ (k - i)) (sym split) ∙ mod-mod-pow n i (k - i) in
    digit_is k (n % 2 ^ k) i less (mod-lt n (pow_pos k)) ∙ ap (nat_le (2 ^ (k - 1 - i))) inner
    ∙ (λ z. nat_le (2 ^ place z) (n % 2 ^ size z))

-- a 1 moved to the left
pub unit_is : (s : ℕ) → s ≤ 24 → 1 * 2 ^ s % 4_294_967_296 ≡ 2 ^ s
unit_is s h =
    let most : 2 ^ s ≤ 2 ^ 24 = pow_mono h in
    ap (λ n. n % 4_294_967_296) (one-mul (2 ^ s)) ∙ mod-eq_of_lt (omega (arith, most))

pub long_unit_is : (s : ℕ) → s ≤ 24 → 1 * 2 ^ s % 18_446_744_073_709_551_616 ≡ 2 ^ s
long_unit_is s h =
    let most : 2 ^ s ≤ 2 ^ 24 = pow_mono h in
    ap (λ n. n % 18_446_744_073_709_551_616) (one-mul (2 ^ s)) ∙ mod-eq_of_lt (omega (arith, most))

-- what stands left of the spare bits
pub mask_small : (n k w : ℕ) → n < 256 ^ w → k ≤ 8 * w → w ≤ 3
    → n / (1 * 2 ^ (8 * w - k) % 18_446_744_073_709_551_616) < 2 ^ k
mask_small n k w small few short =
    let s = 8 * w - k in
    let low : s ≤ 24 = omega (arith, short) in
    let full : k + s ≡ 8 * w = omega (arith, few) in
    let whole : 2 ^ (k + s) ≡ 256 ^ w = ap (λ j. 2 ^ j) full ∙ sym (bytes_wide w short) in
    subst (λ u. n / u < 2 ^ k) (sym (long_unit_is s low)) (shr_below n k s (omega (arith, small, whole)))
