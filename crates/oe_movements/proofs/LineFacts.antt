-- The lines of an order: what each was asked for, what they add to a sum, and what they make of a stock row.
use Rattle.std.proofs.Common.{◌≡◌, ℕ, ◌+◌, ◌-◌, ◌<◌, ◌≤◌, refl, sym, ◌∙◌, ap, subst, Bool, true, false, cond, List}
use Rattle.std.proofs.Common.{[], ◌∷◌, ◌++◌, Option, Some, None, inl, inr, arith}
use Rattle.std.specs.Prelude.{◌⊎◌, ◌↔◌, ◌&&◌, ◌==◌, nat_le, nat_lt, fold, sum_by}
use Rattle.std.specs.List.{All, list_all}
use Rattle.std.specs.Ordering.{eq_by_cmp}
use Rattle.std.specs.Cmp.{eq_by_cmp_equiv}
use Rattle.std.specs.FinMap.{FinMap, get, insert}
use Rattle.std.proofs.lemmas.Bool.{leb-true, leb-false}
use Rattle.std.proofs.lemmas.List.Elements.{All-head, All-tail}
use Rattle.std.proofs.lemmas.List.Sums.{sum_by-cons}
use Rattle.oe_rows.specs.Key.{order_line_cmp, stock_cmp}
use Rattle.oe_rows.specs.declared.keys.OrderKey.{OrderKey}
use Rattle.oe_rows.specs.declared.keys.OrderLineKey.{OrderLineKey}
use Rattle.oe_rows.specs.declared.keys.StockKey.{StockKey}
use Rattle.oe_rows.specs.declared.orders.OrderLine.{OrderLine}
use Rattle.oe_rows.specs.declared.items.Stock.{Stock}
use Rattle.oe_requests.specs.declared.requests.RequestLine.{RequestLine}
use Rattle.oe_requests.specs.declared.requests.NewOrderRequest.{NewOrderRequest}
use Rattle.oe_rows.proofs.KeyFacts.{order_line_total, exact_order_line, stock_total}
use Rattle.oe_model.specs.Keys.{line_in, supply_of_line}
use Rattle.oe_model.specs.Rows.{Rows}
use Rattle.oe_model.specs.Maps.{with_all, sum_of}
use Rattle.oe_model.specs.Positions.{Filled}
use Rattle.oe_model.specs.Requests.{IsRequestLine}
use Rattle.oe_model.specs.NewOrder.{stock_of, quantities_for, stock_after, after_lines, stock_out, item_at}
use Rattle.oe_model.specs.NewOrder.{line_filled_from, all_filled}
use Rattle.oe_model.specs.NewOrder.{line_entries}
use Rattle.oe_model.proofs.SumFacts.{number_at, sum-insert}
use Rattle.oe_model.proofs.EffectFacts.{there, there_in_range}
use Rattle.oe_model.proofs.PresenceFacts.{key_cases, get_other}
use Rattle.oe_model.proofs.LineFacts.{AreNumbered}
use Rattle.oe_movements.specs.Movements.{is_ordered, one_remote, Stock_quantity_at}

-- each line that was filled is of the stock row, and of the quantity, that a line of the request asks of
abbrev pub AreAsked : List RequestLine → List Filled → Type 0
AreAsked [] [] = Unit {0}
AreAsked [] (f ∷ fs) = ⊥
AreAsked (l ∷ ls) [] = ⊥
AreAsked (l ∷ ls) (f ∷ fs) = (supply_of_line f.row ≡ stock_of l) × (f.row.quantity ≡ l.quantity) × AreAsked ls fs

module _ (q : NewOrderRequest) (r : Rows) where
  pub are_asked : (todo before : List RequestLine) (fs : List Filled) → all_filled q r before todo ≡ Some fs
      → AreAsked todo fs
  are_asked [] before [] e = tt
  are_asked [] before (f ∷ fs) e = let no : ⊥ = cc in absurd no
  are_asked (l ∷ ls) before fs e =
      let P : Type 0 = AreAsked (l ∷ ls) fs in
      there P (line_filled_from q r before l) _ fs e (λ f f_is e.
      there P (item_at l.item r.items) _ f f_is (λ item _ f_is.
      there P (get r.stocks (stock_of l)) _ f f_is (λ stock _ f_is.
      there_in_range P stock_out (after_lines q.district.warehouse (before ++ l ∷ []) (stock_of l) stock) _ f f_is
      (λ _ f_is.
      there P (all_filled q r (before ++ l ∷ []) ls) _ fs e (λ more more_is e.
      let supply : supply_of_line f.row ≡ stock_of l =
      ap (λ (o : Option Filled). let v : StockKey = elim o [ None ↦ stock_of l | Some g ↦ supply_of_line g.row ] in v)
      (sym f_is) in
      let quantity : f.row.quantity ≡ l.quantity =
      ap (λ (o : Option Filled). let v : ℕ = elim o [ None ↦ 0 | Some g ↦ g.row.quantity ] in v) (sym f_is) in
      let is : f ∷ more ≡ fs = cc in
      let whole : AreAsked (l ∷ ls) (f ∷ more) = (supply, quantity, are_asked ls (before ++ l ∷ []) more more_is) in
      subst (λ (gs : List Filled). AreAsked (l ∷ ls) gs) is whole)))))

-- new lines add what each of them counts
module _ (k : OrderKey) (F : OrderLineKey → OrderLine → ℕ) where
  pub sum_of_lines : (fs : List Filled) (n : ℕ) (m : FinMap order_line_cmp OrderLine) → AreNumbered n fs
      → ((j : ℕ) → n < j → get m (line_in k j) ≡ None)
      → sum_of F (with_all (line_entries k fs) m) ≡ sum_of F m
      + sum_by (λ (f : Filled). F (line_in k f.number) f.row) fs
  sum_of_lines [] n m a h = omega arith
  sum_of_lines (f ∷ fs) n m a h =
      let j : OrderLineKey = line_in k f.number in
      let number : f.number ≡ n + 1 = a.0 in
      let one : sum_of F (insert m j f.row) + number_at F j (get m j) ≡ sum_of F m + F j f.row =
      sum-insert order_line_total exact_order_line F m j f.row in
      let none : number_at F j (get m j) ≡ 0 = ap (number_at F j) (h f.number (omega arith)) in
      let later : (i : ℕ) → n + 1 < i → get (insert m j f.row) (line_in k i) ≡ None =
      λ i less. by_key i less (key_cases order_line_total exact_order_line (line_in k i) j) in
      let rest = sum_of_lines fs (n + 1) (insert m j f.row) a.1 later in
      let cons : sum_by (λ (f : Filled). F (line_in k f.number) f.row) (f ∷ fs) ≡ F j f.row
      + sum_by (λ (f : Filled). F (line_in k f.number) f.row) fs =
      sum_by-cons (λ (f : Filled). F (line_in k f.number) f.row) f fs in
      omega arith
    where
      by_key : (i : ℕ) → n + 1 < i → (line_in k i ≡ line_in k f.number)
          ⊎ (eq_by_cmp order_line_cmp (line_in k i) (line_in k f.number) ≡ false)
          → get (insert m (line_in k f.number) f.row) (line_in k i) ≡ None
      by_key i less (inl s) = let t : i ≡ f.number = ap (λ (j : OrderLineKey). j.number) s in
          let number : f.number ≡ n + 1 = a.0 in absurd (let no : ⊥ = omega arith in no)
      by_key i less (inr t) = get_other order_line_total exact_order_line m (line_in k f.number) f.row (line_in k i) t
          ∙ h i (omega arith)

-- a figure of a stock row grows with each line by what the line counts
module _ (initial home : ℕ) (o : OrderKey) (later : nat_lt initial o.order ≡ true) (figure : Stock → ℕ)
    (counts : OrderLineKey → OrderLine → ℕ) (k : StockKey)
    (one : (x : Stock) (f : Filled) (n : ℕ) → supply_of_line f.row ≡ k → f.row.quantity ≡ n
    → figure (stock_after home k x n) ≡ figure x + counts (line_in o f.number) f.row) where
  abbrev pub counted : Filled → ℕ
  counted f = cond (is_ordered initial k (line_in o f.number) f.row) (counts (line_in o f.number) f.row) 0

  -- a line counts where it is the row's
  of_row : (f : Filled) (l : RequestLine) (b : Bool) → supply_of_line f.row ≡ stock_of l
      → eq_by_cmp stock_cmp k (stock_of l) ≡ b → counted f ≡ cond b (counts (line_in o f.number) f.row) 0
  of_row f l b s t =
      let test : eq_by_cmp stock_cmp (supply_of_line f.row) k ≡ b =
      ap (λ (j : StockKey). eq_by_cmp stock_cmp j k) s ∙ (eq_by_cmp_equiv stock_total).symm (stock_of l) k ∙ t in
      (λ i. cond (test i && later i) (counts (line_in o f.number) f.row) 0) ∙ always b
    where
      always : (b : Bool) → cond (b && true) (counts (line_in o f.number) f.row) 0 ≡ cond b
          (counts (line_in o f.number) f.row) 0
      always true = refl
      always false = refl

  pub after_figure : (ls : List RequestLine) (fs : List Filled) (x : Stock) → AreAsked ls fs
      → figure (after_lines home ls k x) ≡ figure x + sum_by counted fs
  after_figure [] [] x a = omega arith
  after_figure [] (f ∷ fs) x a = absurd a
  after_figure (l ∷ ls) [] x a = absurd a
  after_figure (l ∷ ls) (f ∷ fs) x a =
      by_test (eq_by_cmp stock_cmp k (stock_of l)) refl (λ y. after_figure ls fs y a.2)
    where
      cons : sum_by counted (f ∷ fs) ≡ counted f + sum_by counted fs
      cons = sum_by-cons counted f fs

      by_test : (b : Bool) → eq_by_cmp stock_cmp k (stock_of l) ≡ b
          → ((y : Stock) → figure (after_lines home ls k y) ≡ figure y + sum_by counted fs)
          → figure (fold (stock_after home k) x (cond b (l.quantity ∷ quantities_for k ls) (quantities_for k ls)))
          ≡ figure x
          + sum_by counted (f ∷ fs)
      by_test true t rest =
          let supply : supply_of_line f.row ≡ k =
          a.0 ∙ sym (Rattle.oe_model.proofs.MapFacts.is_same stock_total Rattle.oe_rows.proofs.KeyFacts.exact_stock k
          (stock_of l) t) in
          let step = one x f l.quantity supply a.1 in
          let more = rest (stock_after home k x l.quantity) in
          let own = of_row f l true a.0 t in
          let c = cons in
          omega arith
      by_test false t rest = let more = rest x in let none = of_row f l false a.0 t in let c = cons in omega arith

-- S_QUANTITY stays in its range
one_range : (b : Bool) (q n : ℕ) → nat_le (n + 10) q ≡ b → n ≤ 10 → 10 ≤ q → q ≤ 100
    → (10 ≤ cond b (q - n) ((q + 91) - n)) × (cond b (q - n) ((q + 91) - n) ≤ 100)
one_range true q n e s low high = let h = leb-true (n + 10) q e in (omega arith, omega arith)
one_range false q n e s low high = let h = leb-false (n + 10) q e in (omega arith, omega arith)

pub after_quantity : (home : ℕ) (k : StockKey) (ls : List RequestLine) (x : Stock) → All IsRequestLine ls
    → Stock_quantity_at x → Stock_quantity_at (after_lines home ls k x)
after_quantity home k [] x valid h = h
after_quantity home k (l ∷ ls) x valid h =
    by_test (eq_by_cmp stock_cmp k (stock_of l))
    (λ y g. after_quantity home k ls y (All-tail IsRequestLine l ls valid) g)
  where
    by_test : (b : Bool) → ((y : Stock) → Stock_quantity_at y → Stock_quantity_at (after_lines home ls k y))
        → Stock_quantity_at (fold (stock_after home k) x
        (cond b (l.quantity ∷ quantities_for k ls) (quantities_for k ls)))
    by_test true rest = rest (stock_after home k x l.quantity)
        (one_range (nat_le (l.quantity + 10) x.quantity) x.quantity l.quantity refl
        (All-head IsRequestLine l ls valid).quantity.1 h.0 h.1)
    by_test false rest = rest x h

-- an order's lines are all local exactly where none of them counts as remote
module _ (home : ℕ) (o : OrderKey) (here : o.warehouse ≡ home) where
  abbrev pub remote : Filled → ℕ
  remote f = one_remote (line_in o f.number) f.row

  is_remote : (f : Filled) (l : RequestLine) → supply_of_line f.row ≡ stock_of l
      → remote f ≡ cond (l.supply == home) 0 1
  is_remote f l s =
      let supply : f.row.supply ≡ l.supply = ap (λ (k : StockKey). k.warehouse) s in
      λ i. cond (supply i == here i) 0 1

  pub all_local : (ls : List RequestLine) (fs : List Filled) → AreAsked ls fs
      → (list_all (λ l. l.supply == home) ls ≡ true) ↔ (sum_by remote fs ≡ 0)
  all_local [] [] a = (λ _. refl, λ _. refl)
  all_local [] (f ∷ fs) a = absurd a
  all_local (l ∷ ls) [] a = absurd a
  all_local (l ∷ ls) (f ∷ fs) a = by_test (l.supply == home) refl (all_local ls fs a.2)
    where
      cons : sum_by remote (f ∷ fs) ≡ remote f + sum_by remote fs
      cons = sum_by-cons remote f fs

      by_test : (b : Bool) → (l.supply == home) ≡ b
          → (list_all (λ l. l.supply == home) ls ≡ true) ↔ (sum_by remote fs ≡ 0)
          → ((b && list_all (λ l. l.supply == home) ls) ≡ true) ↔ (sum_by remote (f ∷ fs) ≡ 0)
      by_test true t rest =
          let none : remote f ≡ 0 = is_remote f l a.0 ∙ ap (λ b. cond b 0 1) t in
          let c = cons in (
            λ e. let h : sum_by remote fs ≡ 0 = rest.0 e in
                omega arith,
            λ e. rest.1 (let h : sum_by remote fs ≡ 0 = omega arith in h),
          )
      by_test false t rest =
          let one : remote f ≡ 1 = is_remote f l a.0 ∙ ap (λ b. cond b 0 1) t in
          let c = cons in (
            λ e. let no : ⊥ = cc in absurd no,
            λ e. absurd (let no : ⊥ = omega arith in no),
          )
