-- How much room records take.
use Rattle.std.proofs.Common.{◌≡◌, ℕ, zero, suc, ◌+◌, ◌-◌, ◌*◌, ◌<◌, ◌≤◌, Bool, true, false, cond, List, [], ◌∷◌}
use Rattle.std.proofs.Common.{length, map, get_or, refl, ap, arith}
use Rattle.std.specs.Prelude.{nat_le}
use Rattle.std.specs.List.{AllByRecursion, sum_by}
use Rattle.std.proofs.lemmas.Bool.{leb-true}
use Rattle.std.proofs.lemmas.List.Sums.{sum_by-cons}
use Rattle.oe_extent.specs.Ring as ring
use Rattle.oe_log.specs.Records.{lengths}
use Rattle.oe_log.specs.Strings.{records_in, AreRecords}
use Rattle.oe_log.proofs.RecordFacts.{some_bytes, lengths_are}

-- each string takes a byte at least
counted_step : (l n : ℕ) (f : ℕ × ℕ) (b : Bool) → nat_le l f.1 ≡ b → 0 < l → n + f.1 ≤ 4096 * f.0
    → suc n + (cond {A = ℕ × ℕ} b (f.0, f.1 - l) (suc f.0, 4096 - l)).1 ≤ 4096
    * (cond {A = ℕ × ℕ} b (f.0, f.1 - l) (suc f.0, 4096 - l)).0
counted_step l n f true e some h = let le = leb-true l f.1 e in omega (arith, le, some, h)
counted_step l n f false e some h = omega (arith, some, h)

counted : (ss : List (ring.Addressed)) → AreRecords ss
    → length ss + (ring.fill_of (ring.lengths_of ss)).1 ≤ 4096 * (ring.fill_of (ring.lengths_of ss)).0
counted [] h = omega arith
counted (s ∷ ss) h =
    counted_step (length s.bytes) (length ss) (ring.fill_of (ring.lengths_of ss))
    (nat_le (length s.bytes) (ring.fill_of (ring.lengths_of ss)).1) refl
    (some_bytes s.bytes h.0) (counted ss h.1)

abbrev extents_of : List (ring.Addressed) → ℕ
extents_of ss = (ring.fill_of (ring.lengths_of ss)).0

one_of_sum : (xs : List (List (ring.Addressed))) (t : ℕ)
    → extents_of (get_or xs t []) ≤ sum_by (λ ss. (ring.fill_of (ring.lengths_of ss)).0) xs
one_of_sum [] t = omega arith
one_of_sum (x ∷ xs) zero = omega (arith, sum_by-cons (λ ss. (ring.fill_of (ring.lengths_of ss)).0) x xs)
one_of_sum (x ∷ xs) (suc t) =
    omega (arith, one_of_sum xs t, sum_by-cons (λ ss. (ring.fill_of (ring.lengths_of ss)).0) x xs)

-- a slot has no more records than bytes
pub few : (r : ring.RingStrings) (t : ℕ) → AreRecords (get_or r.active t []) → ring.used_of r ≤ r.extents
    → r.extents ≤ 4096
    → length (get_or r.active t []) ≤ 16_777_216
few r t h used most = omega (arith, counted (get_or r.active t []) h, one_of_sum r.active t, used, most)

-- how many extents records fill, their strings fill
pub same_used : (xs : List (List (ring.Addressed))) → AllByRecursion AreRecords xs
    → sum_by (λ rs. (ring.fill_of (lengths rs)).0) (map records_in xs) ≡ sum_by
    (λ ss. (ring.fill_of (ring.lengths_of ss)).0) xs
same_used [] h = refl
same_used (x ∷ xs) h =
    let first = ap (λ (ls : List ℕ). (ring.fill_of ls).0) (lengths_are x h.0) in
    omega (
      arith,
      first,
      same_used xs h.1,
      sum_by-cons (λ rs. (ring.fill_of (lengths rs)).0) (records_in x) (map records_in xs),
      sum_by-cons (λ ss. (ring.fill_of (ring.lengths_of ss)).0) x xs,
    )
