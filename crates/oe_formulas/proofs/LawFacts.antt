-- The laws of the formulas of an order.
use Rattle.std.proofs.Common.{◌≡◌, ℕ, ◌+◌, ◌-◌, ◌*◌, ◌/◌, ◌≤◌, ◌<◌, refl, sym, ◌∙◌, ap, subst, Bool, true, false, cond}
use Rattle.std.proofs.Common.{List, [], ◌∷◌, ◌++◌, length, Some, None, arith}
use Rattle.std.specs.Prelude.{fold, filter, sum_by, nat_le, sum}
use Rattle.std.specs.Int.{IsInRange}
use Rattle.std.specs.Ordering.{eq_by_cmp}
use Rattle.std.specs.Cmp.{IsTotalOrder}
use Rattle.std.specs.declared.cmp.Ordering.{Ordering}
use Rattle.std.specs.FinMap.{FinMap, IsAntisymmetric, get, entries, entries_sorted, get-entries, retain_keys}
use Rattle.std.specs.FinMap.{get-retain_keys}
use Rattle.std.specs.FinMap.Entries.{find-where_key, is_sorted-where_key, same_entries}
use Rattle.oe_rows.proofs.KeyFacts.{order_line_total, exact_order_line}
use Rattle.std.proofs.lemmas.Bool.{leb-true, leb-false}
use Rattle.std.proofs.lemmas.List.Sums.{sum_by-cons}
use Rattle.std.proofs.lemmas.Option.{get_or_from_slice_get}
use Rattle.oe_rows.specs.Key.{order_cmp}
use Rattle.oe_rows.specs.declared.keys.OrderLineKey.{OrderLineKey}
use Rattle.oe_rows.specs.declared.keys.StockKey.{StockKey}
use Rattle.oe_rows.specs.declared.items.Stock.{Stock}
use Rattle.oe_rows.specs.declared.orders.OrderLine.{OrderLine}
use Rattle.oe_requests.specs.declared.requests.RequestLine.{RequestLine}
use Rattle.oe_requests.specs.declared.requests.NewOrderRequest.{NewOrderRequest}
use Rattle.oe_model.specs.Keys.{order_of_line}
use Rattle.oe_model.specs.Rows.{Rows}
use Rattle.oe_model.specs.Positions.{Filled}
use Rattle.oe_model.specs.Effects.{◌>>=◌}
use Rattle.oe_model.specs.NewOrder.{stock_after, quantities_for, after_lines, line_filled_from, all_filled, fill}
use Rattle.oe_model.specs.NewOrder.{item_at, stock_of}
use Rattle.oe_model.specs.NewOrder.{stock_out}
use Rattle.oe_model.specs.Rules.{AreSmall}
use Rattle.oe_model.proofs.EffectFacts.{there, there_in_range}
use Rattle.oe_model.proofs.LineFacts.{length-more}
use Rattle.oe_formulas.specs.Laws.{Stock_is_refilled, IsLine, AreLines, Lines_are_numbered, Line_has_columns}
use Rattle.oe_formulas.specs.Laws.{Total_is_nearest, Delivery_sums_lines}

-- the stock rule
refills : (b : Bool) (q n : ℕ) → nat_le (n + 10) q ≡ b → n ≤ 10
    → (cond b (q - n) (q + 91 - n) + n ≡ q + 91 → q < n + 10) × (q < n + 10 → cond b (q - n) (q + 91 - n) + n ≡ q + 91)
refills true q n e small = let h = leb-true (n + 10) q e in
    ((λ is. omega arith), (λ less. absurd (let no : ⊥ = omega arith in no)))
refills false q n e small = let h = leb-false (n + 10) q e in ((λ is. omega arith), (λ less. omega arith))

stays_once : (b : Bool) (q n : ℕ) → nat_le (n + 10) q ≡ b → n ≤ 10 → 10 ≤ q → q ≤ 100
    → (10 ≤ cond b (q - n) (q + 91 - n)) × (cond b (q - n) (q + 91 - n) ≤ 100)
stays_once true q n e small low high = let h = leb-true (n + 10) q e in
    ((let z : 10 ≤ q - n = omega arith in z), (let z : q - n ≤ 100 = omega arith in z))
stays_once false q n e small low high = let h = leb-false (n + 10) q e in
    ((let z : 10 ≤ q + 91 - n = omega arith in z), (let z : q + 91 - n ≤ 100 = omega arith in z))

stays : (home : ℕ) (k : StockKey) (ns : List ℕ) (x : Stock) → AreSmall ns → IsInRange 10 100 x.quantity
    → IsInRange 10 100 (fold (stock_after home k) x ns).quantity
stays home k [] x s h = h
stays home k (n ∷ ns) x s h =
    let once : (10 ≤ (stock_after home k x n).quantity) × ((stock_after home k x n).quantity ≤ 100) =
    stays_once (nat_le (n + 10) x.quantity) x.quantity n refl s.0 h.0 h.1 in
    stays home k ns (stock_after home k x n) s.1 (once.0, once.1)

pub stock_is_refilled : Stock_is_refilled
stock_is_refilled = record {
  exactly = λ home n k x small. let h = refills (nat_le (n + 10) x.quantity) x.quantity n refl small in (h.0, h.1);
  stays = λ home ls k x s h. stays home k (quantities_for k ls) x s h;
}

-- the lines of an order
module _ (q : NewOrderRequest) (r : Rows) where
  lines_are : (todo before : List RequestLine) (fs : List Filled) → all_filled q r before todo ≡ Some fs
      → AreLines (length before + 1) todo fs
  lines_are [] before [] e = tt
  lines_are [] before (f ∷ fs) e = let no : ⊥ = cc in absurd no
  lines_are (l ∷ ls) before fs e =
      let P : Type 0 = AreLines (length before + 1) (l ∷ ls) fs in
      there P (line_filled_from q r before l) _ fs e (λ f f_is e.
      there P (item_at l.item r.items) _ f f_is (λ item _ f_is.
      there P (get r.stocks (stock_of l)) _ f f_is (λ stock _ f_is.
      there_in_range P stock_out (after_lines q.district.warehouse (before ++ l ∷ []) (stock_of l) stock) _ f f_is
      (λ _ f_is.
      there P (all_filled q r (before ++ l ∷ []) ls) _ fs e (λ more more_is e.
      let rest : AreLines (length before + 1 + 1) ls more = subst (λ (n : ℕ). AreLines (n + 1) ls more)
      (length-more before l) (lines_are ls (before ++ l ∷ []) more more_is) in
      let own : fill q (length before + 1) l item
      (after_lines q.district.warehouse (before ++ l ∷ []) (stock_of l) stock) ≡ f = cc in
      let line : IsLine (length before + 1) l
      (fill q (length before + 1) l item (after_lines q.district.warehouse (before ++ l ∷ []) (stock_of l) stock)) =
      record { number = refl; item = refl; supply = refl; delivery = refl; quantity = refl; amount = refl }
      in
      let is : f ∷ more ≡ fs = cc in
      let whole : AreLines (length before + 1) (l ∷ ls) (f ∷ more) =
      (subst (λ (g : Filled). IsLine (length before + 1) l g) own line, rest) in
      subst (λ (gs : List Filled). AreLines (length before + 1) (l ∷ ls) gs) is whole)))))

pub lines_are_numbered : Lines_are_numbered
lines_are_numbered q r fs e = lines_are q r q.lines [] fs e

pub line_has_columns : Line_has_columns
line_has_columns = record {
  amount = λ q n l item stock. refl;
  dist_info = λ q n l item stock info e. get_or_from_slice_get stock.dist_info (q.district.district - 1) info [] e;
}

-- the total
nearest : (e : ℕ) → ((e + 50000000) / 100000000 * 100000000 ≤ e + 50000000)
    × (e < (e + 50000000) / 100000000 * 100000000 + 50000000)
nearest e = (
  (let z : (e + 50000000) / 100000000 * 100000000 ≤ e + 50000000 = omega arith in z),
  (let z : e < (e + 50000000) / 100000000 * 100000000 + 50000000 = omega arith in z),
)

pub total_is_nearest : Total_is_nearest
total_is_nearest = record {
  above = λ amounts c w d. (nearest (sum amounts * (10000 - c) * (10000 + w + d))).0;
  below = λ amounts c w d. (nearest (sum amounts * (10000 - c) * (10000 + w + d))).1;
}

-- a delivery's sum
kept_sum : {X : Type 0} (p : X → Bool) (f : X → ℕ) (xs : List X)
    → sum_by f (filter p xs) ≡ sum_by (λ x. cond (p x) (f x) 0) xs
kept_sum p f [] = refl
kept_sum p f (x ∷ xs) = by_test (p x) refl (kept_sum p f xs) (sum_by-cons (λ y. cond (p y) (f y) 0) x xs)
  where
    by_test : (b : Bool) → p x ≡ b → sum_by f (filter p xs) ≡ sum_by (λ y. cond (p y) (f y) 0) xs
        → sum_by (λ y. cond (p y) (f y) 0) (x ∷ xs) ≡ cond (p x) (f x) 0 + sum_by (λ y. cond (p y) (f y) 0) xs
        → sum_by f (cond b (x ∷ filter p xs) (filter p xs)) ≡ sum_by (λ y. cond (p y) (f y) 0) (x ∷ xs)
    by_test true e rest all =
        let own : cond (p x) (f x) 0 ≡ f x = ap (λ b. cond b (f x) 0) e in
        let kept : sum_by f (x ∷ filter p xs) ≡ f x + sum_by f (filter p xs) = sum_by-cons f x (filter p xs) in
        omega arith
    by_test false e rest all =
        let own : cond (p x) (f x) 0 ≡ 0 = ap (λ b. cond b (f x) 0) e in
        omega arith

module _ {K X : Type 0} {R : K → K → Ordering} (total : IsTotalOrder R) (exact : IsAntisymmetric R) where
  kept_entries : (m : FinMap R X) (p : K → Bool) → filter (λ e. p e.0) (entries m) ≡ entries (retain_keys m p)
  kept_entries m p =
      same_entries R total exact _ _ (is_sorted-where_key R p (entries m) (entries_sorted m))
      (entries_sorted (retain_keys m p)) (λ k.
      find-where_key R p k (λ x e. ap p (sym (exact k x e))) (entries m)
      ∙ ap (λ o. cond (p k) o None) (sym (get-entries m k))
      ∙ sym (get-retain_keys m p k (λ x e. ap p (sym (exact k x e)))) ∙ get-entries (retain_keys m p) k)

pub delivery_sums_lines : Delivery_sums_lines
delivery_sums_lines k lines =
    ap (λ (es : List (OrderLineKey × OrderLine)). sum_by (λ e. e.1.amount) es)
    (sym (kept_entries order_line_total exact_order_line lines (λ l. eq_by_cmp order_cmp (order_of_line l) k)))
    ∙ kept_sum (λ (e : OrderLineKey × OrderLine). eq_by_cmp order_cmp (order_of_line e.0) k) (λ e. e.1.amount)
    (entries lines)
