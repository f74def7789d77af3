-- Each errand is in its ranges, and of rows that a population of its scale has.
use Rattle.std.proofs.Common.{◌≡◌, ℕ, zero, suc, ◌+◌, ◌-◌, ◌%◌, ◌<◌, ◌≤◌, ◌==◌, Bool, false, List, [], ◌∷◌, ◌++◌}
use Rattle.std.proofs.Common.{length, refl, sym, subst, ap, ◌∙◌, arith}
use Rattle.std.proofs.Math.Nat.{mod-lt, min-le_left, min-le_right, mod-eq_of_lt}
use Rattle.std.proofs.lemmas.Bool.{eqb-true}
use Rattle.std.proofs.lemmas.List.{length-append}
use Rattle.std.proofs.lemmas.List.Elements.{All-cons, All-nil, All-append}
use Rattle.std.specs.Prelude.{min, nat_le, All}
use Rattle.std.specs.Int.{IsInRange}
use Rattle.rand_pcg.specs.Lcg.{Lcg}
use Rattle.oe_rows.specs.declared.scales.Scale.{Scale}
use Rattle.oe_rows.specs.declared.keys.DistrictKey.{DistrictKey}
use Rattle.oe_requests.specs.declared.requests.CustomerChoice.{CustomerChoice}
use Rattle.oe_requests.specs.declared.requests.CustomerChoice.TheVariants.{Number, LastName}
use Rattle.oe_requests.specs.declared.requests.RequestLine.{RequestLine}
use Rattle.oe_requests.specs.declared.requests.Request.TheVariants as request
use Rattle.oe_requests.specs.declared.requests.Errand.TheVariants.{Begin}
use Rattle.oe_model.specs.Population.{IsScale, last_name}
use Rattle.oe_model.specs.Requests.{IsDistrict, IsChoice, IsStamp, IsRequestLine}
use Rattle.oe_terms.specs.declared.errands.Kind.{Kind}
use Rattle.oe_terms.specs.declared.errands.Kind.TheVariants as kind
use Rattle.oe_terms.specs.Draws.{random, nurand}
use Rattle.oe_terms.specs.Columns.{home, other, stamp_of, district_in, customer_number, name_number, item_number}
use Rattle.oe_terms.specs.Columns.{choice, residence}
use Rattle.oe_terms.specs.Errands.{line, used_lines, lines, new_order, payment, kind_of, errand_of_kind, errand_of}
use Rattle.oe_terms.specs.Ranges.{HasDistrict, HasCustomer, HasLine, IsErrandOf}
use Rattle.oe_terms.proofs.DrawFacts.{random_in, nurand_in, either}
use Rattle.oe_terms.proofs.NameFacts.{last_name_is}

home_in : (s : Scale) (t : ℕ) → IsScale s → IsInRange 1 s.warehouses (home s t)
home_in s t is = let some = is.warehouses.0 in let below = mod-lt (t - 1) {m = s.warehouses} (omega arith) in
    (omega arith, omega arith)

other_in : (s : Scale) (w : ℕ) → IsScale s → IsInRange 1 s.warehouses (other s w)
other_in s w is = let some = is.warehouses.0 in let below = mod-lt w {m = s.warehouses} (omega arith) in
    (omega arith, omega arith)

district_has : (s : Scale) (w : ℕ) (g : Lcg) → IsInRange 1 s.warehouses w → HasDistrict s (district_in w g).0
district_has s w g has = (has, random_in 1 10 g (omega arith))

residence_has : (s : Scale) (at : DistrictKey) (g : Lcg) → IsScale s → HasDistrict s at
    → HasDistrict s (residence s at g).0
residence_has s at g is has =
    either (λ (p : DistrictKey × Lcg). HasDistrict s p.0) (nat_le (random 1 100 g).0 85) _ _ (λ _. has)
    (λ _. district_has s (other s at.warehouse) (random 1 100 g).1 (other_in s at.warehouse is))

customer_in : (c : ℕ) (g : Lcg) → 1 ≤ c → IsInRange 1 c (customer_number c g).0
customer_in c g some =
    either (λ (p : ℕ × Lcg). IsInRange 1 c p.0) (c == 3_000) _ _
    (λ e. subst (λ (n : ℕ). IsInRange 1 n (nurand 1_023 987 1 3_000 g).0) (sym (eqb-true c 3_000 e))
    (nurand_in 1_023 987 1 3_000 g (omega arith))) (λ _. random_in 1 c g some)

item_in : (i : ℕ) (g : Lcg) → 1 ≤ i → IsInRange 1 i (item_number i g).0
item_in i g some =
    either (λ (p : ℕ × Lcg). IsInRange 1 i p.0) (i == 100_000) _ _
    (λ e. subst (λ (n : ℕ). IsInRange 1 n (nurand 8_191 5_987 1 100_000 g).0) (sym (eqb-true i 100_000 e))
    (nurand_in 8_191 5_987 1 100_000 g (omega arith))) (λ _. random_in 1 i g some)

name_in : (c : ℕ) (g : Lcg) → 1 ≤ c → ((name_number c g).0 < c) × ((name_number c g).0 < 1_000)
name_in c g some =
    either (λ (p : ℕ × Lcg). (p.0 < c) × (p.0 < 1_000)) (c == 3_000) _ _
    (λ e. let is = eqb-true c 3_000 e in let r = (nurand_in 255 157 0 999 g (omega arith)).1 in
    (omega arith, omega arith))
    (λ _. let a = min-le_left c 1_000 in let b = min-le_right c 1_000 in
    let r = (random_in 0 (min c 1_000 - 1) g (omega arith)).1 in (omega arith, omega arith))

choice_has : (s : Scale) (g : Lcg) → IsScale s → HasCustomer s (choice s.customers g).0
    × IsChoice (choice s.customers g).0
choice_has s g is =
    let u = random 1 100 g in
    either (λ (p : CustomerChoice × Lcg). HasCustomer s p.0 × IsChoice p.0) (nat_le u.0 60) _ _
    (λ _. named (name_number s.customers u.1).0 (name_in s.customers u.1 is.customers.0))
    (λ _. numbered (customer_number s.customers u.1).0 (customer_in s.customers u.1 is.customers.0))
  where
    named : (n : ℕ) → (n < s.customers) × (n < 1_000) → HasCustomer s (LastName (last_name n))
        × IsChoice (LastName (last_name n))
    named n l = let below = l.0 in (
      (
        n + 1,
        (omega arith, omega arith),
        (let same : n ≡ n + 1 - 1 = omega arith in
            ap last_name (sym (mod-eq_of_lt l.1)) ∙ ap (λ (m : ℕ). last_name (m % 1_000)) same),
      ),
      last_name_is n l.1,
    )

    numbered : (n : ℕ) → IsInRange 1 s.customers n → HasCustomer s (Number n) × IsChoice (Number n)
    numbered n l = let a = l.0 in let b = l.1 in let c = is.customers.1 in (l, (omega arith, omega arith))

stamp_is : (r : ℕ) → r ≤ 1_000 → IsStamp (stamp_of r)
stamp_is r l = omega arith

district_is : (s : Scale) (k : DistrictKey) → IsScale s → HasDistrict s k → IsDistrict k
district_is s k is has = let a = has.0.0 in let b = has.0.1 in let c = is.warehouses.1 in
    ((omega arith, omega arith), has.1)

line_has : (s : Scale) (w : ℕ) (u : Bool) (g : Lcg) → IsScale s → IsInRange 1 s.warehouses w
    → HasLine s (line s w u g).0
line_has s w u g is has =
    let i = item_number s.items g in
    let x = random 1 100 i.1 in (
      either (IsInRange 1 s.warehouses) (x.0 == 1) _ _ (λ _. other_in s w is) (λ _. has),
      either (IsInRange 1 (s.items + 1)) u _ _ (λ _. (omega arith, omega arith))
          (λ _. let r = item_in s.items g is.items.0 in let a = r.0 in let b = r.1 in (omega arith, omega arith)),
    )

line_is : (s : Scale) (w : ℕ) (u : Bool) (g : Lcg) → IsScale s → HasLine s (line s w u g).0
    → IsRequestLine (line s w u g).0
line_is s w u g is has =
    let a = has.0.0 in
    let b = has.0.1 in
    let c = has.1.0 in
    let d = has.1.1 in
    let e = is.warehouses.1 in
    let f = is.items.1 in
    record {
      supply = (omega arith, omega arith);
      item = (omega arith, omega arith);
      quantity = random_in 1 10 (random 1 100 (item_number s.items g).1).1 (omega arith);
    }

-- lines that are there, and one line more
lines_more : (P : RequestLine → Type 0) (xs : List RequestLine) (x : RequestLine) → All P xs → P x
    → All P (xs ++ x ∷ [])
lines_more P xs x all one = All-append P xs (x ∷ []) all (All-cons P x [] one (All-nil P))

used_lines_long : (s : Scale) (w n : ℕ) (g : Lcg) → length (used_lines s w n g).0 ≡ n
used_lines_long s w zero g = refl
used_lines_long s w (suc n) g =
    let before = used_lines s w n g in
    let long = used_lines_long s w n g in
    let more = length-append before.0 ((line s w false before.1).0 ∷ []) in
    omega arith

used_lines_all : (P : RequestLine → Type 0) (s : Scale) (w n : ℕ) (g : Lcg)
    → ((u : Bool) (h : Lcg) → P (line s w u h).0) → All P (used_lines s w n g).0
used_lines_all P s w zero g each = All-nil P
used_lines_all P s w (suc n) g each =
    let before = used_lines s w n g in
    lines_more P before.0 (line s w false before.1).0 (used_lines_all P s w n g each) (each false before.1)

lines_long : (s : Scale) (w : ℕ) (u : Bool) (n : ℕ) (g : Lcg) → 1 ≤ n → length (lines s w u n g).0 ≡ n
lines_long s w u n g some =
    let before = used_lines s w (n - 1) g in
    let long = used_lines_long s w (n - 1) g in
    let more = length-append before.0 ((line s w u before.1).0 ∷ []) in
    omega arith

lines_all : (P : RequestLine → Type 0) (s : Scale) (w : ℕ) (u : Bool) (n : ℕ) (g : Lcg)
    → ((u : Bool) (h : Lcg) → P (line s w u h).0) → All P (lines s w u n g).0
lines_all P s w u n g each =
    let before = used_lines s w (n - 1) g in
    lines_more P before.0 (line s w u before.1).0 (used_lines_all P s w (n - 1) g each) (each u before.1)

new_order_is : (s : Scale) (t r : ℕ) (g : Lcg) → IsScale s → r ≤ 1_000
    → IsErrandOf s (Begin (request.NewOrder (new_order s t r g).0))
new_order_is s t r g is early =
    let w = home s t in
    let rbk = random 1 100 g in
    let d = district_in w rbk.1 in
    let c = customer_number s.customers d.1 in
    let n = random 5 15 c.1 in
    let has = home_in s t is in
    let district = district_has s w rbk.1 has in
    let customer = customer_in s.customers d.1 is.customers.0 in
    let a = customer.0 in
    let b = customer.1 in
    let e = is.customers.1 in
    let count = random_in 5 15 c.1 (omega arith) in (
      record {
        district = district_is s d.0 is district;
        customer = (omega arith, omega arith);
        stamp = stamp_is r early;
        count = (let a = count.0 in subst (IsInRange 5 15) (sym (lines_long s w (rbk.0 == 1) n.0 n.1 (omega arith)))
            count);
        lines = lines_all IsRequestLine s w (rbk.0 == 1) n.0 n.1 (λ u h. line_is s w u h is (line_has s w u h is has));
      },
      (district, customer, lines_all (HasLine s) s w (rbk.0 == 1) n.0 n.1 (λ u h. line_has s w u h is has)),
    )

payment_is : (s : Scale) (t r : ℕ) (g : Lcg) → IsScale s → r ≤ 1_000
    → IsErrandOf s (Begin (request.Payment (payment s t r g).0))
payment_is s t r g is early =
    let w = home s t in
    let d = district_in w g in
    let at = residence s d.0 d.1 in
    let c = choice s.customers at.1 in
    let district = district_has s w g (home_in s t is) in
    let resident = residence_has s d.0 d.1 is district in
    let customer = choice_has s at.1 is in (
      record {
        district = district_is s d.0 is district;
        customer_district = district_is s at.0 is resident;
        customer = customer.1;
        amount = random_in 100 500_000 c.1 (omega arith);
        stamp = stamp_is r early;
      },
      (district, resident, customer.0),
    )

errand_is_of_kind : (k : Kind) (s : Scale) (t r : ℕ) (g : Lcg) → IsScale s → r ≤ 1_000
    → IsErrandOf s (errand_of_kind k s t r g).0
errand_is_of_kind kind.NewOrder s t r g is early = new_order_is s t r g is early
errand_is_of_kind kind.Payment s t r g is early = payment_is s t r g is early
errand_is_of_kind kind.OrderStatus s t r g is early =
    let d = district_in (home s t) g in
    (district_has s (home s t) g (home_in s t is), (choice_has s d.1 is).0)
errand_is_of_kind kind.Delivery s t r g is early = (home_in s t is, random_in 1 10 g (omega arith), stamp_is r early)
errand_is_of_kind kind.StockLevel s t r g is early =
    let below = mod-lt (t - 1) {m = 10} (omega arith) in
    ((home_in s t is, (omega arith, omega arith)), random_in 10 20 g (omega arith))

pub errand_is_of : (s : Scale) (t r : ℕ) (g : Lcg) → IsScale s → r ≤ 1_000 → IsErrandOf s (errand_of s t r g).0
errand_is_of s t r g is early = errand_is_of_kind (kind_of r) s t r g is early
