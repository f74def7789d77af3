-- Stock-Level counts each low item once; and modes conflict as the theory's do.
use Rattle.std.proofs.Common.{◌≡◌, ℕ, suc, ◌+◌, ◌≤◌, ◌<◌, refl, sym, ◌∙◌, ap, Bool, true, false, cond, List, [], ◌∷◌}
use Rattle.std.proofs.Common.{map, length, Some, inl, inr, arith}
use Rattle.std.specs.Prelude.{◌&&◌, ◌||◌, ◌==◌, T, filter, count_by, nat_le}
use Rattle.std.specs.List.{list_any}
use Rattle.std.specs.Ordering.{eq_by_cmp}
use Rattle.std.proofs.lemmas.Bool.{leb-true, eqb-true, eq-eqb}
use Rattle.std.proofs.lemmas.List.Sums.{sum_by-cons}
use Rattle.std.specs.FinMap.{get, entries, entries_sorted}
use Rattle.std.specs.FinMap.Entries.{is_sorted, below_all}
use Rattle.oe_theory.specs.Machine.{Outcome, Here}
use Rattle.oe_rows.specs.Key.{district_cmp, stock_cmp}
use Rattle.oe_rows.specs.declared.keys.DistrictKey.{DistrictKey}
use Rattle.oe_rows.specs.declared.keys.OrderLineKey.{OrderLineKey}
use Rattle.oe_rows.specs.declared.keys.StockKey.{StockKey}
use Rattle.oe_rows.specs.declared.keys.Key.TheVariants as key
use Rattle.oe_rows.specs.declared.districts.District.{District}
use Rattle.oe_rows.specs.declared.orders.OrderLine.{OrderLine}
use Rattle.oe_rows.specs.declared.items.Stock.{Stock}
use Rattle.oe_rows.specs.declared.locks.Mode.TheVariants.{Shared, Exclusive}
use Rattle.oe_requests.specs.declared.requests.LevelQuery.{LevelQuery}
use Rattle.oe_requests.specs.declared.replies.QueryReply.{QueryReply}
use Rattle.oe_requests.specs.declared.replies.QueryReply.TheVariants as told
use Rattle.oe_requests.specs.declared.refusals.Refusal.{Refusal}
use Rattle.oe_requests.specs.declared.refusals.Refusal.TheVariants.{NoSuchRow}
use Rattle.oe_rows.proofs.KeyFacts.{district_total, exact_district, order_line_total, exact_order_line, stock_total}
use Rattle.oe_rows.proofs.KeyFacts.{exact_stock}
use Rattle.oe_model.specs.Keys.{district_of_order, order_of_line}
use Rattle.oe_model.specs.Rows.{Rows}
use Rattle.oe_model.specs.Lists.{IsAmong, IsDistinct}
use Rattle.oe_model.specs.Queries.{reply_with, is_recent, recent_lines, is_low}
use Rattle.oe_model.specs.Rules.{IsLow, Level_is_exact, Modes_conflict}
use Rattle.oe_model.proofs.MapFacts.{is_same, is_self}
use Rattle.oe_model.proofs.EntryFacts.{EachOf, later, entries_at, row_among}
use Rattle.oe_model.proofs.ListFacts.{each_among, one_is, kept_among}

pub modes_conflict : Modes_conflict
modes_conflict Shared Shared = refl
modes_conflict Shared Exclusive = refl
modes_conflict Exclusive Shared = refl
modes_conflict Exclusive Exclusive = refl

both_true : (a b : Bool) → (a && b) ≡ true → (a ≡ true) × (b ≡ true)
both_true true b e = (refl, e)
both_true false b e = let no : ⊥ = cc in absurd no

-- what a test says of a list's elements
module _ {A : Type 0} where
  any_is : (f : A → Bool) (xs : List A) → list_any f xs ≡ true → (x : A) × IsAmong x xs × (f x ≡ true)
  any_is f [] e = let no : ⊥ = cc in absurd no
  any_is f (x ∷ xs) e = by_test (f x) refl e (any_is f xs)
    where
      by_test : (b : Bool) → f x ≡ b → (b || list_any f xs) ≡ true
          → (list_any f xs ≡ true → (y : A) × IsAmong y xs × (f y ≡ true)) → (y : A) × IsAmong y (x ∷ xs) × (f y ≡ true)
      by_test true t e rest = (x, inl refl, t)
      by_test false t e rest = let h = rest e in (h.0, inr h.1, h.2)

  kept_is : (p : A → Bool) (xs : List A) (x : A) → IsAmong x (filter p xs) → IsAmong x xs × (p x ≡ true)
  kept_is p [] x i = absurd i
  kept_is p (y ∷ xs) x i = by_test (p y) refl i (kept_is p xs x)
    where
      more : IsAmong x xs × (p x ≡ true) → IsAmong x (y ∷ xs) × (p x ≡ true)
      more h = (inr h.0, h.1)

      by_test : (b : Bool) → p y ≡ b → IsAmong x (cond b (y ∷ filter p xs) (filter p xs))
          → (IsAmong x (filter p xs) → IsAmong x xs × (p x ≡ true)) → IsAmong x (y ∷ xs) × (p x ≡ true)
      by_test true t (inl e) rest = (inl e, ap p (sym e) ∙ t)
      by_test true t (inr j) rest = more (rest j)
      by_test false t j rest = more (rest j)

  kept_count : (p : A → Bool) (xs : List A) → length (filter p xs) ≡ count_by p xs
  kept_count p [] = refl
  kept_count p (x ∷ xs) = by_test (p x) refl (kept_count p xs)
    where
      by_test : (b : Bool) → p x ≡ b → length (filter p xs) ≡ count_by p xs
          → length (cond b (x ∷ filter p xs) (filter p xs)) ≡ count_by p (x ∷ xs)
      by_test true t rest =
          let a = sum_by-cons (λ x. cond {A = ℕ} (p x) 1 0) x xs in
          let c : cond {A = ℕ} (p x) 1 0 ≡ 1 = ap (λ b. cond {A = ℕ} b 1 0) t in omega arith
      by_test false t rest =
          let a = sum_by-cons (λ x. cond {A = ℕ} (p x) 1 0) x xs in
          let c : cond {A = ℕ} (p x) 1 0 ≡ 0 = ap (λ b. cond {A = ℕ} b 1 0) t in omega arith

  map_length : {B : Type 0} (f : A → B) (xs : List A) → length (map f xs) ≡ length xs
  map_length f [] = refl
  map_length f (x ∷ xs) = let h = map_length f xs in omega arith

  mapped_is : {B : Type 0} (f : A → B) (xs : List A) (y : B) → IsAmong y (map f xs) → (x : A) × IsAmong x xs × (f x ≡ y)
  mapped_is f [] y i = absurd i
  mapped_is f (x ∷ xs) y (inl e) = (x, inl refl, e)
  mapped_is f (x ∷ xs) y (inr i) = let h = mapped_is f xs y i in (h.0, inr h.1, h.2)

  is_mapped : {B : Type 0} (f : A → B) (xs : List A) (x : A) → IsAmong x xs → IsAmong (f x) (map f xs)
  is_mapped f [] x i = i
  is_mapped f (y ∷ xs) x (inl e) = inl (ap f e)
  is_mapped f (y ∷ xs) x (inr i) = inr (is_mapped f xs x i)

le_leb : (a b : ℕ) → a ≤ b → nat_le a b ≡ true
le_leb a b h = by_test (nat_le a b) refl
  where
    by_test : (t : Bool) → nat_le a b ≡ t → t ≡ true
    by_test true e = refl
    by_test false e = let less = Rattle.std.proofs.lemmas.Bool.leb-false a b e in
        absurd (let no : ⊥ = omega arith in no)

left : (a b : Bool) → T (a && b) → T a
left true b p = tt
left false b p = p

right : (a b : Bool) → T (a && b) → T b
right true b p = p
right false b p = absurd p

module _ (q : LevelQuery) (r : Rows) (x : District) where
  abbrev lines : List (OrderLineKey × OrderLine)
  lines = recent_lines q.district x.next_order r.order_lines

  abbrev lows : List (StockKey × Stock) → List ℕ
  lows es = map (λ e. e.0.item) (filter (is_low q lines) es)

  -- what the test says of a STOCK row
  record Passes (e : StockKey × Stock) : Type 0 where
    key : e.0 ≡ record { warehouse = q.district.warehouse; item = e.0.item }
    low : e.1.quantity < q.threshold
    named : (l : OrderLineKey × OrderLine) × IsAmong l lines × (l.1.item ≡ e.0.item)

  passes : (e : StockKey × Stock) → is_low q lines e ≡ true → Passes e
  passes e t =
      let a = both_true _ _ t in
      let b = both_true _ _ a.0 in
      let n = any_is (λ (l : OrderLineKey × OrderLine). l.1.item == e.0.item) lines a.1 in
      record {
        key = ap (λ (w : ℕ). record { warehouse = w; item = e.0.item })
            (eqb-true e.0.warehouse q.district.warehouse b.0);
        low = (let h = leb-true (suc e.1.quantity) q.threshold b.1 in omega arith);
        named = (n.0, n.1, eqb-true n.0.1.item e.0.item n.2);
      }

  distinct_in : (es : List (StockKey × Stock)) → T (is_sorted stock_cmp es) → IsDistinct (lows es)
  distinct_in [] s = tt
  distinct_in (e ∷ es) s = by_test (is_low q lines e) refl
      (distinct_in es (right (below_all stock_cmp e.0 es) (is_sorted stock_cmp es) s))
    where
      above : EachOf (λ f. eq_by_cmp stock_cmp f.0 e.0 ≡ false) es
      above = later stock_total e es (left (below_all stock_cmp e.0 es) (is_sorted stock_cmp es) s)

      twice : is_low q lines e ≡ true → IsAmong e.0.item (lows es) → ⊥
      twice t i =
          let f = mapped_is (λ (e : StockKey × Stock). e.0.item) (filter (is_low q lines) es) e.0.item i in
          let k = kept_is (is_low q lines) es f.0 f.1 in
          let one = passes e t in
          let two = passes f.0 k.1 in
          let same : f.0.0 ≡ e.0 = two.key ∙ ap (λ (i : ℕ). record { warehouse = q.district.warehouse; item = i }) f.2
          ∙ sym one.key in
          let differs : eq_by_cmp stock_cmp f.0.0 e.0 ≡ false = each_among (λ f. eq_by_cmp stock_cmp f.0 e.0 ≡ false) es
          f.0 above k.0 in
          let no : true ≡ false = sym (is_self stock_total exact_stock e.0)
          ∙ ap (λ z. eq_by_cmp stock_cmp z e.0) (sym same) ∙ differs in
          let z : ⊥ = cc in z

      by_test : (b : Bool) → is_low q lines e ≡ b → IsDistinct (lows es)
          → IsDistinct (map (λ e. e.0.item) (cond b (e ∷ filter (is_low q lines) es) (filter (is_low q lines) es)))
      by_test true t rest = (twice t, rest)
      by_test false t rest = rest

  each_low : (i : ℕ) → IsAmong i (lows (entries r.stocks)) → IsLow q r x.next_order i
  each_low i j =
      let f = mapped_is (λ (e : StockKey × Stock). e.0.item) (filter (is_low q lines) (entries r.stocks)) i j in
      let k = kept_is (is_low q lines) (entries r.stocks) f.0 f.1 in
      let p = passes f.0 k.1 in
      let at : get r.stocks f.0.0 ≡ Some f.0.1 = each_among (λ e. get r.stocks e.0 ≡ Some e.1) (entries r.stocks) f.0
      (entries_at stock_total r.stocks) k.0 in
      let l = kept_is (λ (e : OrderLineKey × OrderLine). is_recent q.district x.next_order e.0) (entries r.order_lines)
      p.named.0 p.named.1 in
      let line_at : get r.order_lines p.named.0.0 ≡ Some p.named.0.1 =
      each_among (λ e. get r.order_lines e.0 ≡ Some e.1) (entries r.order_lines) p.named.0
      (entries_at order_line_total r.order_lines) l.0 in
      let a = both_true _ _ l.1 in
      let b = both_true _ _ a.0 in
      record {
        line_key = p.named.0.0;
        line = p.named.0.1;
        line_at = line_at;
        district = is_same district_total exact_district (district_of_order (order_of_line p.named.0.0)) q.district b.0;
        first = leb-true x.next_order (p.named.0.0.order + 20) b.1;
        last = (let h = leb-true (suc p.named.0.0.order) x.next_order a.1 in omega arith);
        item = p.named.2 ∙ f.2;
        stock = f.0.1;
        stock_at = ap (get r.stocks)
            (sym (p.key ∙ ap (λ (i : ℕ). record { warehouse = q.district.warehouse; item = i }) f.2)) ∙ at;
        low = p.low;
      }

  all_low : (i : ℕ) → IsLow q r x.next_order i → IsAmong i (lows (entries r.stocks))
  all_low i h =
      let l : OrderLineKey × OrderLine = (h.line_key, h.line) in
      let recent : is_recent q.district x.next_order h.line_key ≡ true =
      λ j. ((ap (λ (d : DistrictKey). eq_by_cmp district_cmp d q.district) h.district
      ∙ is_self district_total exact_district q.district) j && le_leb x.next_order (h.line_key.order + 20) h.first
      j)
      && le_leb (suc h.line_key.order) x.next_order (let less = h.last in omega arith) j in
      let among : IsAmong l lines = kept_among (λ (e : OrderLineKey × OrderLine). is_recent q.district x.next_order e.0)
      (entries r.order_lines) l
      (row_among order_line_total exact_order_line r.order_lines h.line_key h.line h.line_at) recent in
      let k : StockKey = record { warehouse = q.district.warehouse; item = i } in
      let e : StockKey × Stock = (k, h.stock) in
      let low : is_low q lines e ≡ true =
      λ j. (eq-eqb q.district.warehouse q.district.warehouse refl j && le_leb (suc h.stock.quantity) q.threshold
      (let less = h.low in omega arith) j)
      && one_is (λ (l : OrderLineKey × OrderLine). l.1.item == i) lines l among (eq-eqb h.line.item i h.item) j in
      is_mapped (λ (e : StockKey × Stock). e.0.item) (filter (is_low q lines) (entries r.stocks)) e
      (kept_among (is_low q lines) (entries r.stocks) e
      (row_among stock_total exact_stock r.stocks k h.stock h.stock_at) low)

pub level_is_exact : Level_is_exact
level_is_exact q r x at =
    let es = filter (is_low q (lines q r x)) (entries r.stocks) in (
      lows q r x (entries r.stocks),
      ap (λ o. reply_with (NoSuchRow (key.District q.district)) o
          (λ (x : District). let y : Outcome QueryReply Refusal = Here
          (told.Level (count_by (is_low q (recent_lines q.district x.next_order r.order_lines)) (entries r.stocks))) in
          y)) at
          ∙ ap (λ (n : ℕ). let y : Outcome QueryReply Refusal = Here (told.Level n) in y)
          (sym (map_length (λ (e : StockKey × Stock). e.0.item) es ∙ kept_count (is_low q (lines q r x))
          (entries r.stocks))),
      record {
        distinct = distinct_in q r x (entries r.stocks) (entries_sorted r.stocks);
        each = each_low q r x;
        all = all_low q r x;
      },
    )
