-- A field of a key's sums is the column of the facts, taken together: exactly, or where the sums stay within a limit.
use Rattle.std.proofs.Common.{◌≡◌, refl, sym, ◌∙◌, ap, subst, Bool, true, false, cond, ℕ, ◌+◌, ◌-◌, ◌*◌, ◌^◌, ◌<◌, ◌≤◌}
use Rattle.std.proofs.Common.{List, [], ◌∷◌, map, length, arith, mul-suc, Option, Some, None}
use Rattle.std.specs.Prelude.{min, max, ℤ, pos, ◌+ℤ◌, IfSome}
use Rattle.std.specs.List.{AllByRecursion}
use Rattle.std.proofs.lemmas.List.Elements.{recursion_from_All}
use Rattle.std.specs.Option.{option_map}
use Rattle.std.specs.Int.{int_wrap, w128, int_max, int_min}
use Rattle.std.specs.Int.RustNames.{unsigned_abs}
use Rattle.std.proofs.lemmas.Int.{int_wrap_fits, fits_signed_from_abs, ints, clamps}
use Rattle.oe_tally.specs.Tallies.{together, total}
use Rattle.oe_ledgers.specs.Columns.{of_key, either}
use Rattle.oe_ledgers.specs.Sums.{most, greatest_sum}
use Rattle.oe_ledgers.specs.Figures.{AreFew, AreAmounts, AreNumbers}

pub pos_max : (a b : ℕ) → pos (max a b) ≡ int_max (pos a) (pos b)
pos_max a b = omega (arith, ints, clamps)

pub pos_min : (a b : ℕ) → pos (min a b) ≡ int_min (pos a) (pos b)
pos_min a b = omega (arith, ints, clamps)

abs_add : (a b : ℤ) → unsigned_abs (a +ℤ b) ≤ unsigned_abs a + unsigned_abs b
abs_add a b = omega (arith, ints)

pub either_flag : (a b : Bool) → pos (cond (either a b) 1 0) ≡ int_max (pos (cond a 1 0)) (pos (cond b 1 0))
either_flag true true = refl
either_flag true false = refl
either_flag false true = refl
either_flag false false = refl

pub either_open : (a b : Bool) → pos (cond (either a b) 0 1) ≡ int_min (pos (cond a 0 1)) (pos (cond b 0 1))
either_open true true = refl
either_open true false = refl
either_open false true = refl
either_open false false = refl

-- a flag counts at most one
pub flag : (b : Bool) → cond b 1 0 ≤ 1
flag true = omega arith
flag false = omega arith

pub other_flag : (b : Bool) → cond b 0 1 ≤ 1
other_flag true = omega arith
other_flag false = omega arith

pub flag_of : (b c : Bool) → cond b (cond c 0 1) 0 ≤ 1
flag_of true c = other_flag c
flag_of false c = omega arith

-- what may be left out is at most itself
pub at_most : (b : Bool) (n : ℕ) → cond b n 0 ≤ n
at_most true n = omega arith
at_most false n = omega arith

pub abs_at_most : (b : Bool) (z : ℤ) → unsigned_abs (cond b z (pos 0)) ≤ unsigned_abs z
abs_at_most true z = omega arith
abs_at_most false z = omega arith

module _ {F K V C : Type 0} (same : K → K → Bool) (join : V → V → V) (op : C → C → C) (entry : F → K × V)
    (field : V → C)
    (hom : (a b : V) → field (join a b) ≡ op (field a) (field b)) where
  project-step : (b : Bool) (v : V) (r : Option V)
      → option_map field (together join (cond b (Some v) None) r)
      ≡ together op (cond b (Some (field v)) None) (option_map field r)
  project-step true v None = refl
  project-step true v (Some w) = ap Some (hom v w)
  project-step false v r = refl

  -- a field that joins as the column is taken together
  pub projected : (facts : List F) (k : K)
      → option_map field (total same join (map entry facts) k)
      ≡ of_key same (λ f. (entry f).0) op (λ f. field (entry f).1) facts k
  projected [] k = refl
  projected (f ∷ facts) k =
      project-step (same (entry f).0 k) (entry f).1 (total same join (map entry facts) k)
      ∙ ap (together op (cond (same (entry f).0 k) (Some (field (entry f).1)) None)) (projected facts k)

module _ {F K : Type 0} (same : K → K → Bool) (key : F → K) (column : F → ℤ) (each : ℕ) where
  bound-step : (b : Bool) (x : ℤ) (s : Option ℤ) (m : ℕ) → unsigned_abs x ≤ each → IfSome s (λ y. unsigned_abs y ≤ m)
      → IfSome (together (λ p q. p +ℤ q) (cond b (Some x) None) s) (λ y. unsigned_abs y ≤ m + each)
  bound-step true x None m h g = omega arith
  bound-step true x (Some y) m h g = omega (arith, abs_add x y, g)
  bound-step false x None m h g = tt
  bound-step false x (Some y) m h g = omega (arith, g)

  -- the greatest sum that so many facts may have
  abbrev limit_of : List F → ℕ
  limit_of [] = 0
  limit_of (f ∷ facts) = limit_of facts + each

  limit-is : (facts : List F) → limit_of facts ≡ each * length facts
  limit-is [] = omega arith
  limit-is (f ∷ facts) = ap (λ n. n + each) (limit-is facts) ∙ sym (mul-suc each (length facts))

  bounded : (facts : List F) (k : K) → AllByRecursion (λ f. unsigned_abs (column f) ≤ each) facts
      → IfSome (of_key same key (λ p q. p +ℤ q) column facts k) (λ y. unsigned_abs y ≤ limit_of facts)
  bounded [] k h = tt
  bounded (f ∷ facts) k h =
      bound-step (same (key f) k) (column f) (of_key same key (λ p q. p +ℤ q) column facts k) (limit_of facts) h.0
      (bounded facts k h.1)

module _ {F K V : Type 0} (same : K → K → Bool) (join : V → V → V) (entry : F → K × V) (field : V → ℤ) (limit each : ℕ)
    (adds : (a b : V) → unsigned_abs (field a +ℤ field b) ≤ limit → field (join a b) ≡ field a +ℤ field b) where
  abbrev sums : List F → K → Option ℤ
  sums facts k = of_key same (λ f. (entry f).0) (λ p q. p +ℤ q) (λ f. field (entry f).1) facts k

  sum-step : (b : Bool) (v : V) (r : Option V) (m : ℕ) → unsigned_abs (field v) ≤ each
      → IfSome (option_map field r) (λ y. unsigned_abs y ≤ m) → m + each ≤ limit
      → option_map field (together join (cond b (Some v) None) r)
      ≡ together (λ p q. p +ℤ q) (cond b (Some (field v)) None) (option_map field r)
  sum-step true v None m h g l = refl
  sum-step true v (Some w) m h g l = ap Some (adds v w (omega (arith, abs_add (field v) (field w), g)))
  sum-step false v r m h g l = refl

  summed-within : (facts : List F) (k : K) → AllByRecursion (λ f. unsigned_abs (field (entry f).1) ≤ each) facts
      → limit_of same (λ f. (entry f).0) (λ f. field (entry f).1) each facts ≤ limit
      → option_map field (total same join (map entry facts) k) ≡ sums facts k
  summed-within [] k h l = refl
  summed-within (f ∷ facts) k h l =
      let rest : option_map field (total same join (map entry facts) k)
      ≡ sums facts k = summed-within facts k h.1 (omega arith) in
      sum-step (same (entry f).0 k) (entry f).1 (total same join (map entry facts) k)
      (limit_of same (λ f. (entry f).0) (λ f. field (entry f).1) each facts) h.0
      (subst (λ s. IfSome s
      (λ y. unsigned_abs y ≤ limit_of same (λ f. (entry f).0) (λ f. field (entry f).1) each facts)) (sym rest)
      (bounded same (λ f. (entry f).0) (λ f. field (entry f).1) each facts k h.1)) l
      ∙ ap (together (λ p q. p +ℤ q) (cond (same (entry f).0 k) (Some (field (entry f).1)) None)) rest

  -- a field whose sums stay within its limit is the sum of the column
  pub summed : (facts : List F) (k : K) → AllByRecursion (λ f. unsigned_abs (field (entry f).1) ≤ each) facts
      → each * length facts ≤ limit → option_map field (total same join (map entry facts) k) ≡ sums facts k
  summed facts k h l =
      summed-within facts k h
      (subst (λ n. n ≤ limit) (sym (limit-is same (λ f. (entry f).0) (λ f. field (entry f).1) each facts)) l)

all_small : {F : Type 0} (n : F → ℕ) (each : ℕ) (small : (f : F) → n f ≤ each) (facts : List F)
    → AllByRecursion (λ f. n f ≤ each) facts
all_small n each small [] = tt
all_small n each small (f ∷ facts) = (small f, all_small n each small facts)

all_within : {F : Type 0} (n m : F → ℕ) (each : ℕ) (within : (f : F) → n f ≤ m f) (facts : List F)
    → AllByRecursion (λ f. m f ≤ each) facts → AllByRecursion (λ f. n f ≤ each) facts
all_within n m each within [] h = tt
all_within n m each within (f ∷ facts) h = (omega (arith, within f, h.0), all_within n m each within facts h.1)

all_below : {F : Type 0} (n m : F → ℕ) (within : (f : F) → n f ≤ m f) (facts : List F)
    → AllByRecursion (λ f. m f < 2 ^ 32) facts → AllByRecursion (λ f. n f ≤ 2 ^ 32 - 1) facts
all_below n m within [] h = tt
all_below n m within (f ∷ facts) h = (omega (arith, within f, h.0), all_below n m within facts h.1)

adds_capped : (cap a b j : ℕ) → j ≡ min (a + b) cap → a + b ≤ cap → pos j ≡ pos (a + b)
adds_capped cap a b j is h = ap pos (omega arith)

adds_wrapped : (a b j : ℤ) → j ≡ int_wrap w128 (a +ℤ b) → unsigned_abs (a +ℤ b) ≤ 2 ^ 127 - 1 → j ≡ a +ℤ b
adds_wrapped a b j is h = is ∙ int_wrap_fits w128 (a +ℤ b) (fits_signed_from_abs w128 (a +ℤ b) (omega arith))

module _ {F K V : Type 0} (same : K → K → Bool) (join : V → V → V) (entry : F → K × V) where
  -- a count of fewer than 2^32 rows
  pub counted : (count : V → ℕ) → ((a b : V) → count (join a b) ≡ min (count a + count b) most)
      → ((f : F) → count (entry f).1 ≤ 1) → (facts : List F) → AreFew facts → (k : K)
      → option_map (λ v. pos (count v)) (total same join (map entry facts) k)
      ≡ of_key same (λ f. (entry f).0) (λ p q. p +ℤ q) (λ f. pos (count (entry f).1)) facts k
  counted count joins small facts few k =
      summed same join entry (λ v. pos (count v)) most 1
      (λ a b h. adds_capped most (count a) (count b) (count (join a b)) (joins a b) h) facts k
      (all_small (λ f. count (entry f).1) 1 small facts) (omega arith)

  -- a sum of fewer than 2^32 amounts, each within 2^63
  pub money : (amount : V → ℤ) → ((a b : V) → amount (join a b) ≡ int_wrap w128 (amount a +ℤ amount b))
      → (column : F → ℤ)
      → ((f : F) → unsigned_abs (amount (entry f).1) ≤ unsigned_abs (column f)) → (facts : List F) → AreFew facts
      → AreAmounts column facts → (k : K)
      → option_map amount (total same join (map entry facts) k)
      ≡ of_key same (λ f. (entry f).0) (λ p q. p +ℤ q) (λ f. amount (entry f).1) facts k
  money amount joins column within facts few amounts k =
      summed same join entry amount (2 ^ 127 - 1) (2 ^ 63)
      (λ a b h. adds_wrapped (amount a) (amount b) (amount (join a b)) (joins a b) h) facts k
      (all_within (λ f. unsigned_abs (amount (entry f).1)) (λ f. unsigned_abs (column f)) (2 ^ 63) within facts
      (recursion_from_All (λ f. unsigned_abs (column f) ≤ 2 ^ 63) facts amounts)) (omega arith)

  -- a sum of fewer than 2^32 numbers, each below 2^32
  pub quantities : (quantity : V → ℕ) → ((a b : V) → quantity (join a b) ≡ min (quantity a + quantity b) greatest_sum)
      → (column : F → ℕ) → ((f : F) → quantity (entry f).1 ≤ column f) → (facts : List F) → AreFew facts
      → AreNumbers column facts → (k : K)
      → option_map (λ v. pos (quantity v)) (total same join (map entry facts) k)
      ≡ of_key same (λ f. (entry f).0) (λ p q. p +ℤ q) (λ f. pos (quantity (entry f).1)) facts k
  quantities quantity joins column within facts few numbers k =
      summed same join entry (λ v. pos (quantity v)) greatest_sum (2 ^ 32 - 1)
      (λ a b h. adds_capped greatest_sum (quantity a) (quantity b) (quantity (join a b)) (joins a b) h) facts k
      (all_below (λ f. quantity (entry f).1) column within facts
      (recursion_from_All (λ f. column f < 2 ^ 32) facts numbers)) (omega arith)
