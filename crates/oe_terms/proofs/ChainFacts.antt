-- Draws one after another are the request that they make.
use Rattle.std.proofs.Common.{◌≡◌, ℕ, suc, ◌+◌, ◌-◌, ◌==◌, true, false, List, [], ◌∷◌, ◌++◌, length, sym, ap, ◌∙◌}
use Rattle.std.proofs.Common.{subst, arith}
use Rattle.std.proofs.lemmas.List.{length-append}
use Rattle.std.specs.Prelude.{nat_le, if◌then◌else◌}
use Rattle.rand_pcg.specs.Lcg.{Lcg}
use Rattle.oe_rows.specs.declared.scales.Scale.{Scale}
use Rattle.oe_rows.specs.declared.keys.DistrictKey.{DistrictKey}
use Rattle.oe_requests.specs.declared.requests.CustomerChoice.{CustomerChoice}
use Rattle.oe_requests.specs.declared.requests.CustomerChoice.TheVariants.{Number, LastName}
use Rattle.oe_requests.specs.declared.requests.RequestLine.{RequestLine}
use Rattle.oe_requests.specs.declared.requests.NewOrderRequest.{NewOrderRequest}
use Rattle.oe_requests.specs.declared.requests.PaymentRequest.{PaymentRequest}
use Rattle.oe_requests.specs.declared.requests.Errand.{Errand}
use Rattle.oe_terms.specs.Draws.{random}
use Rattle.oe_terms.specs.Columns.{home, stamp_of, district_in, customer_number, name_drawn, choice, residence}
use Rattle.oe_terms.specs.declared.errands.Kind.{Kind}
use Rattle.oe_terms.specs.Errands.{line, used_lines, lines, new_order, payment, kind_of, errand_of_kind, errand_of}
use Rattle.oe_terms.specs.Errands.{words_after, request_of}

-- a customer by last name
pub named_choice : (customers : ℕ) (g g1 g2 : Lcg) (u : ℕ) (name : List ℕ) → (u, g1) ≡ random 1 100 g
    → nat_le u 60 ≡ true → (name, g2) ≡ name_drawn customers g1 → (LastName name, g2) ≡ choice customers g
named_choice customers g g1 g2 u name eu is en =
    let named : List ℕ × Lcg → CustomerChoice × Lcg = λ p. (LastName p.0, p.1) in
    let numbered : ℕ × Lcg → CustomerChoice × Lcg = λ p. (Number p.0, p.1) in
    let from : ℕ × Lcg → CustomerChoice × Lcg = λ p. if nat_le p.0 60 then named (name_drawn customers p.1) else
    numbered (customer_number customers p.1) in
    ap named en ∙ (ap (λ b. if b then named (name_drawn customers g1) else numbered (customer_number customers g1))
    (sym is) ∙ ap from eu)

-- one line more
pub used_lines_more : (s : Scale) (w n : ℕ) (g g1 g2 : Lcg) (xs ys : List RequestLine) (x : RequestLine)
    → (xs, g1) ≡ used_lines s w n g → (x, g2) ≡ line s w false g1 → ys ≡ xs ++ x ∷ []
    → (ys, g2) ≡ used_lines s w (n + 1) g
used_lines_more s w n g g1 g2 xs ys x before next more =
    let from : List RequestLine × Lcg → List RequestLine × Lcg =
    λ p. (p.0 ++ (line s w false p.1).0 ∷ [], (line s w false p.1).1) in
    let at : suc n ≡ n + 1 = omega arith in
    subst (λ (m : ℕ). (ys, g2) ≡ used_lines s w m g) at
    (ap (λ l. (l, g2)) more ∙ (ap (λ (p : RequestLine × Lcg). (xs ++ p.0 ∷ [], p.1)) next ∙ ap from before))

pub length_more : (n : ℕ) (xs ys : List RequestLine) (x : RequestLine) → ys ≡ xs ++ x ∷ [] → length xs ≡ n
    → length ys ≡ n + 1
length_more n xs ys x more long =
    let joined = length-append xs (x ∷ []) in
    let same = ap length more in
    omega arith

pub new_order_drawn : (s : Scale) (t r w : ℕ) (g g1 g2 g3 g4 g5 : Lcg) (rbk : ℕ) (d : DistrictKey) (c n : ℕ)
    (ls : List RequestLine) (stamp : ℕ) → w ≡ home s t → (rbk, g1) ≡ random 1 100 g → (d, g2) ≡ district_in w g1
    → (c, g3) ≡ customer_number s.customers g2 → (n, g4) ≡ random 5 15 g3 → (ls, g5) ≡ lines s w (rbk == 1) n g4
    → stamp ≡ stamp_of r
    → (record { district = d; customer = c; stamp = stamp; lines = ls }, g5) ≡ new_order s t r g
new_order_drawn s t r w g g1 g2 g3 g4 g5 rbk d c n ls stamp ew e1 e2 e3 e4 e5 es =
    ap with_stamp es ∙ (ap (with_lines d c) e5
    ∙ (ap (with_count w rbk d c) e4
    ∙ (ap (with_customer w rbk d) e3
    ∙ (ap (with_district w rbk) e2 ∙ (ap (with_rbk w) e1 ∙ ap (λ v. with_rbk v (random 1 100 g)) ew)))))
  where
    with_stamp : ℕ → NewOrderRequest × Lcg
    with_stamp x = (record { district = d; customer = c; stamp = x; lines = ls }, g5)

    with_lines : DistrictKey → ℕ → List RequestLine × Lcg → NewOrderRequest × Lcg
    with_lines d c p = (record { district = d; customer = c; stamp = stamp_of r; lines = p.0 }, p.1)

    with_count : ℕ → ℕ → DistrictKey → ℕ → ℕ × Lcg → NewOrderRequest × Lcg
    with_count w rbk d c p = with_lines d c (lines s w (rbk == 1) p.0 p.1)

    with_customer : ℕ → ℕ → DistrictKey → ℕ × Lcg → NewOrderRequest × Lcg
    with_customer w rbk d p = with_count w rbk d p.0 (random 5 15 p.1)

    with_district : ℕ → ℕ → DistrictKey × Lcg → NewOrderRequest × Lcg
    with_district w rbk p = with_customer w rbk p.0 (customer_number s.customers p.1)

    with_rbk : ℕ → ℕ × Lcg → NewOrderRequest × Lcg
    with_rbk w p = with_district w p.0 (district_in w p.1)

pub payment_drawn : (s : Scale) (t r w : ℕ) (g g1 g2 g3 g4 : Lcg) (d at : DistrictKey) (c : CustomerChoice)
    (amount stamp : ℕ) → w ≡ home s t → (d, g1) ≡ district_in w g → (at, g2) ≡ residence s d g1
    → (c, g3) ≡ choice s.customers g2 → (amount, g4) ≡ random 100 500_000 g3 → stamp ≡ stamp_of r
    → (record { district = d; customer_district = at; customer = c; amount = amount; stamp = stamp }, g4) ≡ payment s t
    r g
payment_drawn s t r w g g1 g2 g3 g4 d at c amount stamp ew e1 e2 e3 e4 es =
    ap with_stamp es ∙ (ap (with_amount d at c) e4
    ∙ (ap (with_customer d at) e3
    ∙ (ap (with_residence d) e2 ∙ (ap with_district e1 ∙ ap (λ v. with_district (district_in v g)) ew))))
  where
    with_stamp : ℕ → PaymentRequest × Lcg
    with_stamp x = (record { district = d; customer_district = at; customer = c; amount = amount; stamp = x }, g4)

    with_amount : DistrictKey → DistrictKey → CustomerChoice → ℕ × Lcg → PaymentRequest × Lcg
    with_amount d at c p =
        (record { district = d; customer_district = at; customer = c; amount = p.0; stamp = stamp_of r }, p.1)

    with_customer : DistrictKey → DistrictKey → CustomerChoice × Lcg → PaymentRequest × Lcg
    with_customer d at p = with_amount d at p.0 (random 100 500_000 p.1)

    with_residence : DistrictKey → DistrictKey × Lcg → PaymentRequest × Lcg
    with_residence d p = with_customer d p.0 (choice s.customers p.1)

    with_district : DistrictKey × Lcg → PaymentRequest × Lcg
    with_district p = with_residence p.0 (residence s p.0 p.1)

-- an errand of the kind whose turn it is
pub errand_drawn : (s : Scale) (t r : ℕ) (g g1 : Lcg) (e : Errand) (k : Kind) (n : ℕ) → k ≡ kind_of r → n ≡ r
    → (e, g1) ≡ errand_of_kind k s t n g → (e, g1) ≡ errand_of s t r g
errand_drawn s t r g g1 e k n kind is drawn =
    drawn ∙ (ap (λ (m : ℕ). errand_of_kind k s t m g) is ∙ ap (λ (j : Kind). errand_of_kind j s t r g) kind)

-- one errand more
pub words_more : (s : Scale) (seed t n m : ℕ) (g g1 : Lcg) (e : Errand) → g ≡ words_after s seed t n → m ≡ n + 1
    → (e, g1) ≡ errand_of s t m g → g1 ≡ words_after s seed t (n + 1)
words_more s seed t n m g g1 e before at drawn =
    let next : suc n ≡ n + 1 = omega arith in
    subst (λ (k : ℕ). g1 ≡ words_after s seed t k) next
    (ap (λ (p : Errand × Lcg). p.1) drawn
    ∙ (ap (λ (h : Lcg). (errand_of s t m h).1) before ∙ ap (λ (k : ℕ). (errand_of s t k (words_after s seed t n)).1)
    (at ∙ sym next)))

pub request_drawn : (s : Scale) (seed t r n : ℕ) (g g1 : Lcg) (e : Errand) → g ≡ words_after s seed t n → n ≡ r - 1
    → (e, g1) ≡ errand_of s t r g → e ≡ request_of s seed t r
request_drawn s seed t r n g g1 e before at drawn = ap (λ (p : Errand × Lcg). p.0) drawn
    ∙ ap (λ (h : Lcg). (errand_of s t r h).0) (before ∙ ap (words_after s seed t) at)
