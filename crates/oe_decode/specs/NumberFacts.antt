-- Bytes are known by their number.
use Rattle.std.proofs.Common.{◌≡◌, ℕ, zero, suc, ◌+◌, ◌*◌, ◌^◌, ◌<◌, ◌≤◌, List, [], ◌∷◌, length, take, refl, sym, ap}
use Rattle.std.proofs.Common.{◌∙◌, arith, inl, inr}
use Rattle.std.proofs.Math.Nat.{mod-lt, mul-le-mul_right, add-mul}
use Rattle.std.proofs.lemmas.Bool.{cases_lt}
use Rattle.std.proofs.lemmas.List.{get_or-take, get_or_past, length-take, append-nil}
use Rattle.std.specs.Int.{byte_at}
use Rattle.byteorder.specs.Endian.{big_from, big_bytes, big_number}
use Rattle.byteorder.specs.Numbers.{big_from-cons, big_from-lt, big_from-take, big_number-reads_back}
use Rattle.byteorder.specs.Numbers.{length-bytes_high_first}
use Rattle.oe_decode.specs.Fronts.{IsBytes}

byte_at-lt : (k x : ℕ) → byte_at k x < 256
byte_at-lt zero x = mod-lt x (omega arith)
byte_at-lt (suc k) x = mod-lt _ (omega arith)

pub IsBytes-number : (n x : ℕ) → IsBytes (big_bytes n x)
IsBytes-number zero x i = omega arith
IsBytes-number (suc n) x zero = byte_at-lt n x
IsBytes-number (suc n) x (suc i) = IsBytes-number n x i

pub IsBytes-take : (n : ℕ) (bytes : List ℕ) → IsBytes bytes → IsBytes (take n bytes)
IsBytes-take n bytes h i =
    elim (cases_lt i n) [
      | inl lt ↦ rw (get_or-take n bytes i 0 lt) (h i)
      | inr le ↦ rw (get_or_past (take n bytes) i 0 (omega (arith, length-take n bytes))) (omega arith)
    ]

same_top : (unit a b r s : ℕ) → r < unit → s < unit → a * unit + r ≡ b * unit + s → (a < b) → a ≡ b
same_top unit a b r s hr hs e lt =
    let top : (a + 1) * unit ≤ b * unit = mul-le-mul_right unit (omega arith) in
    let expand : (a + 1) * unit ≡ a * unit + 1 * unit = add-mul a 1 unit in
    absurd (omega arith)

tops : (unit a b r s : ℕ) → r < unit → s < unit → a * unit + r ≡ b * unit + s → a ≡ b
tops unit a b r s hr hs e =
    elim (cases_lt a b) [
      | inl lt ↦ same_top unit a b r s hr hs e lt
      | inr le ↦ elim (cases_lt b a) [
        | inl gt ↦ sym (same_top unit b a s r hs hr (sym e) gt)
        | inr ge ↦ omega arith
      ]
    ]

-- n bytes are known by their number
pub same_bytes : (n : ℕ) (xs ys : List ℕ) → length xs ≡ n → length ys ≡ n → IsBytes xs → IsBytes ys
    → big_from 0 n xs ≡ big_from 0 n ys → xs ≡ ys
same_bytes zero [] [] lx ly bx by e = refl
same_bytes zero (x ∷ xs) ys lx ly bx by e = absurd (omega arith)
same_bytes zero [] (y ∷ ys) lx ly bx by e = absurd (omega arith)
same_bytes (suc n) [] ys lx ly bx by e = absurd (omega arith)
same_bytes (suc n) (x ∷ xs) [] lx ly bx by e = absurd (omega arith)
same_bytes (suc n) (x ∷ xs) (y ∷ ys) lx ly bx by e =
    let rest_x : IsBytes xs = λ i. bx (suc i) in
    let rest_y : IsBytes ys = λ i. by (suc i) in
    let hx = big_from-lt 0 n xs rest_x in
    let hy = big_from-lt 0 n ys rest_y in
    let cx = big_from-cons 0 n x xs in
    let cy = big_from-cons 0 n y ys in
    let whole : x * 256 ^ n + big_from 0 n xs ≡ y * 256 ^ n + big_from 0 n ys = rw (← cx, ← cy) e in
    let first : x ≡ y = tops (256 ^ n) x y (big_from 0 n xs) (big_from 0 n ys) hx hy whole in
    let others : big_from 0 n xs ≡ big_from 0 n ys =
    let shift : x * 256 ^ n ≡ y * 256 ^ n = ap (λ (k : ℕ). k * 256 ^ n) first in omega arith in
    let tail = same_bytes n xs ys (omega arith) (omega arith) rest_x rest_y others in
    cc

-- the bytes of the number of n bytes are these bytes
pub number_back : (n : ℕ) (bytes : List ℕ) → n ≤ length bytes → IsBytes bytes
    → big_bytes n (big_number n bytes) ≡ take n bytes
number_back n bytes len fits =
    let lt : big_number n bytes < 256 ^ n = big_from-lt 0 n bytes fits in
    let nil = append-nil (big_bytes n (big_number n bytes)) in
    let back : big_from 0 n (big_bytes n (big_number n bytes)) ≡ big_number n bytes =
    ap (λ (l : List ℕ). big_from 0 n l) (sym nil) ∙ big_number-reads_back n (big_number n bytes) [] lt in
    same_bytes n (big_bytes n (big_number n bytes)) (take n bytes) (length-bytes_high_first n _)
    (omega (arith, length-take n bytes)) (IsBytes-number n _) (IsBytes-take n bytes fits)
    (back ∙ sym (big_from-take 0 n n bytes (omega arith)))
