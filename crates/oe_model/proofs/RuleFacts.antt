-- What the formulas of rows come to.
use Rattle.std.proofs.Common.{◌≡◌, ◌≢◌, ℕ, zero, suc, ◌+◌, ◌-◌, ◌*◌, ◌≤◌, ◌<◌, refl, sym, ◌∙◌, ap, Bool, true, false}
use Rattle.std.proofs.Common.{cond, List, [], ◌∷◌, ◌++◌, length, take, sum, inl, inr, arith}
use Rattle.std.specs.Prelude.{◌⊎◌, ◌&&◌, ◌||◌, ◌==◌, fold, nat_le}
use Rattle.std.proofs.lemmas.Int.{ints}
use Rattle.std.proofs.lemmas.Bool.{leb-true, leb-false, eqb-true, eq-eqb}
use Rattle.std.proofs.lemmas.List.Sums.{sum_by-cons}
use Rattle.oe_rows.specs.Credit.{credit_entry}
use Rattle.oe_rows.specs.declared.keys.StockKey.{StockKey}
use Rattle.oe_rows.specs.declared.customers.Credit.{Credit}
use Rattle.oe_rows.specs.declared.customers.Credit.TheVariants.{Good, Bad}
use Rattle.oe_rows.specs.declared.items.Stock.{Stock}
use Rattle.oe_requests.specs.declared.requests.PaymentRequest.{PaymentRequest}
use Rattle.oe_model.specs.Keys.{customer_in}
use Rattle.oe_model.specs.Payment.{paid_data}
use Rattle.oe_values.specs.Text.{begins_with, occurs_in}
use Rattle.oe_model.specs.NewOrder.{stock_after, quantities_for}
use Rattle.oe_model.specs.Rules.{Payment_is_exact, IsSupplied, AreSmall, Stock_is_exact, Text_occurs}

-- what a cut of 500 leaves
cut_at : (n : ℕ) (xs : List ℕ) → (cut : List ℕ) × (xs ≡ take n xs ++ cut) × (length (take n xs) ≤ n)
    × ((cut ≡ []) ⊎ (length (take n xs) ≡ n))
cut_at zero xs = (xs, refl, omega arith, inr refl)
cut_at (suc n) [] = ([], refl, omega arith, inl refl)
cut_at (suc n) (x ∷ xs) = more (cut_at n xs)
  where
    ends : {cut : List ℕ} → (cut ≡ []) ⊎ (length (take n xs) ≡ n) → (cut ≡ []) ⊎ (length (x ∷ take n xs) ≡ suc n)
    ends (inl e) = inl e
    ends (inr e) = inr (omega arith)

    more : (cut : List ℕ) × (xs ≡ take n xs ++ cut) × (length (take n xs) ≤ n) × ((cut ≡ []) ⊎ (length (take n xs) ≡ n))
        → (cut : List ℕ) × (x ∷ xs ≡ (x ∷ take n xs) ++ cut) × (length (x ∷ take n xs) ≤ suc n)
        × ((cut ≡ []) ⊎ (length (x ∷ take n xs) ≡ suc n))
    more h = let low = h.2 in (h.0, ap (λ ys. x ∷ ys) h.1, omega arith, ends h.3)

data_of : (c : ℕ) (q : PaymentRequest) (k : Credit) (old : List ℕ) → k ≡ Bad
    → (cut : List ℕ) × (credit_entry (record { customer = customer_in q.customer_district c; district = q.district })
    q.amount ++ old ≡ paid_data c q k old ++ cut)
    × (length (paid_data c q k old) ≤ 500) × ((cut ≡ []) ⊎ (length (paid_data c q k old) ≡ 500))
data_of c q Good old e = let no : ⊥ = cc in absurd no
data_of c q Bad old e =
    cut_at 500 (credit_entry (record { customer = customer_in q.customer_district c; district = q.district }) q.amount
    ++ old)

data_stays : (c : ℕ) (q : PaymentRequest) (k : Credit) (old : List ℕ) → k ≡ Good → paid_data c q k old ≡ old
data_stays c q Good old e = refl
data_stays c q Bad old e = let no : ⊥ = cc in absurd no

pub payment_is_exact : Payment_is_exact
payment_is_exact = record {
  balance = λ c q x. omega (arith, ints);
  together = λ c q x. omega (arith, ints);
  count = λ c q x. refl;
  warehouse = λ q x. omega arith;
  district = λ q x. omega arith;
  good = λ c q x e. data_stays c q x.credit x.data e;
  bad = λ c q x e. data_of c q x.credit x.data e;
  others = λ c q x. refl;
}

-- the stock rule
one_line : (b : Bool) (q n : ℕ) → n ≤ 10 → nat_le (n + 10) q ≡ b → (m : ℕ)
    × (cond b (q - n) (q + 91 - n) + n ≡ q + 91 * m)
one_line true q n s e = let h = leb-true (n + 10) q e in (0, omega arith)
one_line false q n s e = (1, omega arith)

all_lines : (home : ℕ) (k : StockKey) (ns : List ℕ) (x : Stock) → AreSmall ns
    → IsSupplied ns x (fold (stock_after home k) x ns)
all_lines home k [] x s =
    record { ytd = omega arith; orders = omega arith; refills = 0; quantity = omega arith; texts = (refl, refl) }
all_lines home k (n ∷ ns) x s =
    let y : Stock = stock_after home k x n in
    let rest : IsSupplied ns y (fold (stock_after home k) y ns) = all_lines home k ns y s.1 in
    let total : sum (n ∷ ns) ≡ n + sum ns = sum_by-cons (λ x. x) n ns in
    let one : (m : ℕ) × (y.quantity + n ≡ x.quantity + 91 * m) = one_line (nat_le (n + 10) x.quantity) x.quantity n s.0
    refl in
    let m : ℕ = one.0 in
    let is : y.quantity + n ≡ x.quantity + 91 * m = one.1 in
    let ytd : (fold (stock_after home k) y ns).ytd ≡ (x.ytd + n) + sum ns = rest.ytd in
    let orders : (fold (stock_after home k) y ns).order_count ≡ (x.order_count + 1) + length ns = rest.orders in
    let quantity : (fold (stock_after home k) y ns).quantity + sum ns ≡ y.quantity
    + 91 * rest.refills = rest.quantity in
    record {
      ytd = omega arith;
      orders = omega arith;
      refills = m + rest.refills;
      quantity = omega arith;
      texts = rest.texts;
    }

remote_at : (b : Bool) (home : ℕ) (k : StockKey) → (k.warehouse == home) ≡ b → (ns : List ℕ) (x : Stock)
    → (fold (stock_after home k) x ns).remote_count ≡ x.remote_count + cond b 0 (length ns)
remote_at true home k e [] x = omega arith
remote_at false home k e [] x = omega arith
remote_at true home k e (n ∷ ns) x =
    let rest = remote_at true home k e ns (stock_after home k x n) in
    let own : (stock_after home k x n).remote_count
    ≡ x.remote_count = ap (λ b. cond b x.remote_count (x.remote_count + 1))
    e in
    omega arith
remote_at false home k e (n ∷ ns) x =
    let rest = remote_at false home k e ns (stock_after home k x n) in
    let own : (stock_after home k x n).remote_count ≡ x.remote_count + 1 =
    ap (λ b. cond b x.remote_count (x.remote_count + 1)) e in
    omega arith

is_remote : (a b : ℕ) → a ≢ b → (a == b) ≡ false
is_remote a b n = by_test (a == b) refl
  where
    by_test : (t : Bool) → (a == b) ≡ t → t ≡ false
    by_test true e = absurd (n (eqb-true a b e))
    by_test false e = refl

rule : (b : Bool) (q n : ℕ) → nat_le (n + 10) q ≡ b → ((n + 10 ≤ q) → cond b (q - n) (q + 91 - n) + n ≡ q)
    × ((q < n + 10) → n ≤ 10 → cond b (q - n) (q + 91 - n) + n ≡ q + 91)
rule true q n e = let h = leb-true (n + 10) q e in
    ((λ _. omega arith), (λ less _. absurd (let no : ⊥ = omega arith in no)))
rule false q n e = let h = leb-false (n + 10) q e in
    ((λ low. absurd (let no : ⊥ = omega arith in no)), (λ _ small. omega arith))

pub stock_is_exact : Stock_is_exact
stock_is_exact = record {
  supplied_by = λ home ls k x s. all_lines home k (quantities_for k ls) x s;
  home = λ ls k x. let h = remote_at true k.warehouse k (eq-eqb k.warehouse k.warehouse refl) (quantities_for k ls) x in
      omega arith;
  remote = λ home ls k x n. remote_at false home k (is_remote k.warehouse home n) (quantities_for k ls) x;
  enough = λ home n k x h. (rule (nat_le (n + 10) x.quantity) x.quantity n refl).0 h;
  refilled = λ home n k x h s. (rule (nat_le (n + 10) x.quantity) x.quantity n refl).1 h s;
}

-- texts in texts
begins : (xs ys : List ℕ) → begins_with xs ys ≡ true → (after : List ℕ) × (ys ≡ xs ++ after)
begins [] ys e = (ys, refl)
begins (x ∷ xs) [] e = let no : ⊥ = cc in absurd no
begins (x ∷ xs) (y ∷ ys) e = by_test (x == y) refl e (begins xs ys)
  where
    by_test : (b : Bool) → (x == y) ≡ b → (b && begins_with xs ys) ≡ true
        → (begins_with xs ys ≡ true → (after : List ℕ) × (ys ≡ xs ++ after))
        → (after : List ℕ) × (y ∷ ys ≡ (x ∷ xs) ++ after)
    by_test true t e rest = let h = rest e in (h.0, (λ i. sym (eqb-true x y t) i ∷ h.1 i))
    by_test false t e rest = let no : ⊥ = cc in absurd no

begins_there : (xs after : List ℕ) → begins_with xs (xs ++ after) ≡ true
begins_there [] after = refl
begins_there (x ∷ xs) after = ap (λ b. b && begins_with xs (xs ++ after)) (eq-eqb x x refl) ∙ begins_there xs after

occurs_found : (xs ys : List ℕ) → occurs_in xs ys ≡ true → (before : List ℕ)
    × ((after : List ℕ) × (ys ≡ before ++ (xs ++ after)))
occurs_found xs [] e = let h = begins xs [] e in ([], (h.0, h.1))
occurs_found xs (y ∷ ys) e = by_test (begins_with xs (y ∷ ys)) refl e (occurs_found xs ys)
  where
    by_test : (b : Bool) → begins_with xs (y ∷ ys) ≡ b → (b || occurs_in xs ys) ≡ true
        → (occurs_in xs ys ≡ true → (before : List ℕ) × ((after : List ℕ) × (ys ≡ before ++ (xs ++ after))))
        → (before : List ℕ) × ((after : List ℕ) × (y ∷ ys ≡ before ++ (xs ++ after)))
    by_test true t e rest = let h = begins xs (y ∷ ys) t in ([], (h.0, h.1))
    by_test false t e rest = let h = rest e in (y ∷ h.0, (h.1.0, ap (λ zs. y ∷ zs) h.1.1))

or_true : (b : Bool) → (b || true) ≡ true
or_true true = refl
or_true false = refl

occurs_first : (xs ys : List ℕ) → begins_with xs ys ≡ true → occurs_in xs ys ≡ true
occurs_first xs [] e = e
occurs_first xs (y ∷ ys) e = ap (λ b. b || occurs_in xs ys) e

occurs_there : (xs before after : List ℕ) → occurs_in xs (before ++ (xs ++ after)) ≡ true
occurs_there xs [] after = occurs_first xs (xs ++ after) (begins_there xs after)
occurs_there xs (y ∷ before) after = ap (λ b. begins_with xs (y ∷ (before ++ (xs ++ after))) || b)
    (occurs_there xs before after) ∙ or_true (begins_with xs (y ∷ (before ++ (xs ++ after))))

pub text_occurs : Text_occurs
text_occurs = record { found = occurs_found; there = occurs_there }
