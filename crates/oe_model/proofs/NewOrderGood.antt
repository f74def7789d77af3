-- New-Order keeps conditions 1 to 4, and what it finds of its order.
use Rattle.std.proofs.Common.{◌≡◌, ℕ, ◌+◌, ◌-◌, ◌<◌, ◌≤◌, refl, sym, ◌∙◌, ap, subst, Bool, true, false, cond, List, []}
use Rattle.std.proofs.Common.{◌∷◌, ◌++◌, length, Option, Some, None, inl, inr, arith}
use Rattle.std.specs.Prelude.{◌⊎◌, IsSome, sum_by}
use Rattle.std.specs.Ordering.{eq_by_cmp}
use Rattle.std.proofs.lemmas.List.Sums.{sum_by-cons}
use Rattle.std.specs.FinMap.{FinMap, get, insert}
use Rattle.oe_theory.specs.World.{bump}
use Rattle.oe_rows.specs.Key.{district_cmp, order_line_cmp}
use Rattle.oe_rows.specs.declared.keys.DistrictKey.{DistrictKey}
use Rattle.oe_rows.specs.declared.keys.NewOrderKey.{NewOrderKey}
use Rattle.oe_rows.specs.declared.keys.OrderKey.{OrderKey}
use Rattle.oe_rows.specs.declared.keys.OrderLineKey.{OrderLineKey}
use Rattle.oe_rows.specs.declared.districts.District.{District}
use Rattle.oe_rows.specs.declared.orders.NewOrder.{NewOrder}
use Rattle.oe_rows.specs.declared.orders.Order.{Order}
use Rattle.oe_rows.specs.declared.orders.OrderLine.{OrderLine}
use Rattle.oe_requests.specs.declared.requests.RequestLine.{RequestLine}
use Rattle.oe_requests.specs.declared.requests.NewOrderRequest.{NewOrderRequest}
use Rattle.oe_requests.specs.declared.replies.Reply.{Reply}
use Rattle.oe_rows.proofs.KeyFacts.{district_total, exact_district, new_order_total, exact_new_order, order_total}
use Rattle.oe_rows.proofs.KeyFacts.{exact_order, order_line_total, exact_order_line}
use Rattle.oe_model.specs.Keys.{warehouse_of_district, district_of_order, district_of_new_order, order_of_line}
use Rattle.oe_model.specs.Keys.{customer_in, order_in, new_order_in, line_in}
use Rattle.oe_model.specs.Rows.{Rows}
use Rattle.oe_model.specs.Maps.{each, with_all, sum_of}
use Rattle.oe_model.specs.Meets.{Meets}
use Rattle.oe_model.specs.Positions.{Filled}
use Rattle.oe_model.specs.NewOrder.{stock_of, stock_out, next_out, item_at, after_lines, line_filled_from, all_filled}
use Rattle.oe_model.specs.NewOrder.{order_row}
use Rattle.oe_model.specs.NewOrder.{new_order_row, with_next, line_entries, new_order_effect}
use Rattle.oe_model.specs.Conditions.{Good, Condition_1, Condition_2, Condition_2_at, Condition_3, Condition_4}
use Rattle.oe_model.specs.Conditions.{IsStocked, ytd_of, new_orders_of, lines_asked, lines_there, if_of}
use Rattle.oe_model.specs.Conditions.{if_of_warehouse, IsGreatest, IsLeast, IsAfterGreatest, HasOrder, HasNewOrder}
use Rattle.oe_model.proofs.MapFacts.{is_self}
use Rattle.oe_model.proofs.EntryFacts.{EachOf}
use Rattle.oe_model.proofs.SumFacts.{number_at, sum-insert, sum-none}
use Rattle.oe_model.proofs.EffectFacts.{made_by, there, there_in_range, bump_below}
use Rattle.oe_model.proofs.PresenceFacts.{present_before, some_present, key_cases, not_turned, get_other, own_or_old}
use Rattle.oe_model.proofs.PresenceFacts.{present_insert, present_own}
use Rattle.oe_model.proofs.LineFacts.{AreNumbered, length-more}
use Rattle.oe_model.proofs.NewOrderFacts.{IsFresh}
use Rattle.oe_model.proofs.NumberFacts.{own_number, other_number, greatest_other, greatest_own}

-- the lines that were filled are numbered from one, and as many as were asked for
module _ (q : NewOrderRequest) (r : Rows) where
  pub record AreLines (before todo : List RequestLine) (fs : List Filled) : Type 0 where
    pub numbered : AreNumbered (length before) fs
    pub count : length fs ≡ length todo
    pub undated : EachOf (λ (f : Filled). f.row.delivery ≡ None) fs

  pub lines_are : (todo before : List RequestLine) (fs : List Filled) → all_filled q r before todo ≡ Some fs
      → AreLines before todo fs
  lines_are [] before [] e = record { numbered = tt; count = refl; undated = tt }
  lines_are [] before (f ∷ fs) e = let no : ⊥ = cc in absurd no
  lines_are (l ∷ ls) before fs e =
      let P : Type 0 = AreLines before (l ∷ ls) fs in
      there P (line_filled_from q r before l) _ fs e (λ f f_is e.
      there P (item_at l.item r.items) _ f f_is (λ item _ f_is.
      there P (get r.stocks (stock_of l)) _ f f_is (λ stock _ f_is.
      there_in_range P stock_out (after_lines q.district.warehouse (before ++ l ∷ []) (stock_of l) stock) _ f f_is
      (λ _ f_is.
      there P (all_filled q r (before ++ l ∷ []) ls) _ fs e (λ more more_is e.
      let rest = lines_are ls (before ++ l ∷ []) more more_is in
      let number : f.number ≡ length before + 1 =
      ap (λ (o : Option Filled). let v : ℕ = elim o [ None ↦ 0 | Some g ↦ g.number ] in v) (sym f_is) in
      let numbered : AreNumbered (length before + 1) more = subst (λ (n : ℕ). AreNumbered n more) (length-more before l)
      rest.numbered in
      let row_is : f.row.delivery ≡ None =
      ap (λ (o : Option Filled). let v : Option ℕ = elim o [ None ↦ None | Some g ↦ g.row.delivery ] in v)
      (sym f_is) in
      let is : f ∷ more ≡ fs = cc in
      let whole : AreLines before (l ∷ ls) (f ∷ more) =
      record {
        numbered = (number, numbered);
        count = (let h : length more ≡ length ls = rest.count in omega arith);
        undated = (row_is, rest.undated);
      } in
      subst (λ (gs : List Filled). AreLines before (l ∷ ls) gs) is whole)))))

module _ (k : OrderKey) (F : OrderLineKey → OrderLine → ℕ) (v : ℕ)
    (is : (n : ℕ) (x : OrderLine) → F (line_in k n) x ≡ v) where
  -- new lines add what each of them counts
  pub sum-with_all : (fs : List Filled) (n : ℕ) (m : FinMap order_line_cmp OrderLine) → AreNumbered n fs
      → ((j : ℕ) → n < j → get m (line_in k j) ≡ None)
      → sum_of F (with_all (line_entries k fs) m) ≡ sum_of F m + sum_by (λ f. v) fs
  sum-with_all [] n m a h = omega arith
  sum-with_all (f ∷ fs) n m a h =
      let j : OrderLineKey = line_in k f.number in
      let number : f.number ≡ n + 1 = a.0 in
      let one : sum_of F (insert m j f.row) + number_at F j (get m j) ≡ sum_of F m + F j f.row =
      sum-insert order_line_total exact_order_line F m j f.row in
      let none : number_at F j (get m j) ≡ 0 = ap (number_at F j) (h f.number (omega arith)) in
      let own : F j f.row ≡ v = is f.number f.row in
      let later : (i : ℕ) → n + 1 < i → get (insert m j f.row) (line_in k i) ≡ None =
      λ i less. by_key i less (key_cases order_line_total exact_order_line (line_in k i) j) in
      let rest = sum-with_all fs (n + 1) (insert m j f.row) a.1 later in
      let cons : sum_by (λ (f : Filled). v) (f ∷ fs) ≡ v + sum_by (λ (f : Filled). v) fs =
      sum_by-cons (λ (f : Filled). v) f fs in
      omega arith
    where
      by_key : (i : ℕ) → n + 1 < i → (line_in k i ≡ line_in k f.number)
          ⊎ (eq_by_cmp order_line_cmp (line_in k i) (line_in k f.number) ≡ false)
          → get (insert m (line_in k f.number) f.row) (line_in k i) ≡ None
      by_key i less (inl s) = let t : i ≡ f.number = ap (λ (j : OrderLineKey). j.number) s in
          let number : f.number ≡ n + 1 = a.0 in absurd (let no : ⊥ = omega arith in no)
      by_key i less (inr t) = get_other order_line_total exact_order_line m (line_in k f.number) f.row (line_in k i) t
          ∙ h i (omega arith)

pub ones : (fs : List Filled) → sum_by (λ f. 1) fs ≡ length fs
ones [] = refl
ones (f ∷ fs) = let a = sum_by-cons (λ (f : Filled). 1) f fs in let h = ones fs in omega arith

pub zeros : (fs : List Filled) → sum_by (λ f. 0) fs ≡ 0
zeros [] = refl
zeros (f ∷ fs) = let a = sum_by-cons (λ (f : Filled). 0) f fs in let h = zeros fs in omega arith

-- the next order of a district is new
module _ (r : Rows) (meets : Meets r) (second : Condition_2 r) (h : DistrictKey) (d : District)
    (d_at : get r.districts h ≡ Some d) where
  pub order_below : (n : ℕ) → HasOrder r h n → n < d.next_order
  order_below n p = let a = (second h d d_at).orders in let b = a.2.1 n p in let c : d.next_order ≡ a.0 + 1 = a.1 in
      omega arith

  pub new_order_below : (n : ℕ) → HasNewOrder r h n → n < d.next_order
  new_order_below n p = let a = (second h d d_at).new_orders n p in let b = a.2.1 n p in
      let c : d.next_order ≡ a.0 + 1 = a.1 in omega arith

  absent : {A : Type 0} (v : Option A) → ((x : A) → v ≡ Some x → HasOrder r h d.next_order) → v ≡ None
  absent None k = refl
  absent (Some x) k = let less = order_below d.next_order (k x refl) in absurd (let no : ⊥ = omega arith in no)

  pub is_fresh : IsFresh r h d.next_order
  is_fresh = record {
    order = absent (get r.orders (order_in h d.next_order))
        (λ x e. some_present (get r.orders (order_in h d.next_order)) x e);
    new_order = absent (get r.new_orders (new_order_in h d.next_order))
        (λ x e. meets.new_orders (new_order_in h d.next_order) x e);
    lines = λ n. absent (get r.order_lines (line_in (order_in h d.next_order) n))
        (λ x e. (meets.order_lines (line_in (order_in h d.next_order) n) x e).0);
  }

module _ (f : ℕ → ℕ) (t : ℕ) (q : NewOrderRequest) (r : Rows) (g : Good f r) (d : District)
    (d_at : get r.districts q.district ≡ Some d)
    (fs : List Filled) (fs_are : all_filled q r [] q.lines ≡ Some fs) where
  abbrev h0 : DistrictKey
  h0 = q.district

  abbrev o : ℕ
  o = d.next_order

  abbrev k : OrderKey
  k = order_in h0 o

  abbrev j : NewOrderKey
  j = new_order_in h0 o

  abbrev pub ordered_rows : Rows
  ordered_rows = record r {
    districts = insert r.districts h0 (with_next d);
    orders = insert r.orders k (order_row q);
    new_orders = insert r.new_orders j new_order_row;
    order_lines = with_all (line_entries k fs) r.order_lines;
    stocks = each (after_lines q.district.warehouse q.lines) r.stocks;
  }

  new : IsFresh r h0 o
  new = is_fresh r g.meets g.condition_2 h0 d d_at

  was_district : (h : DistrictKey) → IsSome (get ordered_rows.districts h) → IsSome (get r.districts h)
  was_district h p = present_before district_total exact_district r.districts h0 (with_next d) h
      (some_present (get r.districts h0) d d_at) p

  ordered_1 : Condition_1 ordered_rows
  ordered_1 w x e =
      let of : DistrictKey → District → ℕ = λ h y. if_of_warehouse w h y.ytd in
      let before : x.ytd ≡ ytd_of r w = g.condition_1 w x e in
      let sum : ytd_of ordered_rows w + of h0 d ≡ ytd_of r w + of h0 (with_next d) =
      ap (λ (v : Option District). sum_of of ordered_rows.districts + number_at of h0 v) (sym d_at)
      ∙ sum-insert district_total exact_district of r.districts h0 (with_next d) in
      before ∙ sym (cancel (ytd_of ordered_rows w) (ytd_of r w) (of h0 d) sum)
    where
      cancel : (a b c : ℕ) → a + c ≡ b + c → a ≡ b
      cancel a b c h = omega arith

  still : (h : DistrictKey) (n : ℕ) → HasNewOrder r h n → HasNewOrder ordered_rows h n
  still h n p = present_insert new_order_total exact_new_order r.new_orders j new_order_row (new_order_in h n) p

  was_other : (h : DistrictKey) → eq_by_cmp district_cmp h h0 ≡ false → (n : ℕ) → HasNewOrder ordered_rows h n
      → HasNewOrder r h n
  was_other h e n p =
      subst (λ (u : Option NewOrder). IsSome u)
      (other_number new_order_total exact_new_order new_order_in district_of_new_order (λ i. i.order) (λ _ _. refl)
      (λ _ _. refl) h0 o r.new_orders new_order_row h e n) p

  ordered_2 : Condition_2 ordered_rows
  ordered_2 h x e = go (own_or_old district_total exact_district r.districts h0 (with_next d) h x e)
    where
      own : h ≡ h0 → o + 1 ≡ x.next_order → Condition_2_at ordered_rows h x
      own s n = record {
        orders = subst (λ (i : DistrictKey). IsAfterGreatest (HasOrder ordered_rows i) x.next_order) (sym s) (
          o,
          sym n,
          greatest_own order_total exact_order order_in district_of_order (λ i. i.order) (λ _ _. refl)
              (λ _ _. refl) h0 o r.orders (order_row q)
              (λ i p. let b = order_below r g.meets g.condition_2 h0 d d_at i p in
              (let z : i ≤ o = omega arith in z)),
        );
        new_orders = λ _ _. subst (λ (i : DistrictKey). IsAfterGreatest (HasNewOrder ordered_rows i) x.next_order)
            (sym s) (
              o,
              sym n,
              greatest_own new_order_total exact_new_order new_order_in district_of_new_order (λ i. i.order)
                  (λ _ _. refl) (λ _ _. refl) h0 o r.new_orders new_order_row
                  (λ i p. let b = new_order_below r g.meets g.condition_2 h0 d d_at i p in
                  (let z : i ≤ o = omega arith in z)),
            );
      }

      other : eq_by_cmp district_cmp h h0 ≡ false → get r.districts h ≡ Some x → Condition_2_at ordered_rows h x
      other n at = record {
        orders = greatest_other order_total exact_order order_in district_of_order (λ i. i.order) (λ _ _. refl)
            (λ _ _. refl) h0 o r.orders (order_row q) h n x.next_order (g.condition_2 h x at).orders;
        new_orders = λ i p. greatest_other new_order_total exact_new_order new_order_in district_of_new_order
            (λ i. i.order) (λ _ _. refl) (λ _ _. refl) h0 o r.new_orders new_order_row h n x.next_order
            ((g.condition_2 h x at).new_orders i (was_other h n i p));
      }

      go : ((h ≡ h0) × (with_next d ≡ x)) ⊎ ((eq_by_cmp district_cmp h h0 ≡ false) × (get r.districts h ≡ Some x))
          → Condition_2_at ordered_rows h x
      go (inl s) = own s.0 (ap (λ (y : District). y.next_order) s.1)
      go (inr s) = other s.0 s.1

  abbrev counted : DistrictKey → NewOrderKey → NewOrder → ℕ
  counted h i y = if_of h (district_of_new_order i) 1

  queue_sum : (h : DistrictKey) → new_orders_of ordered_rows h ≡ new_orders_of r h + if_of h h0 1
  queue_sum h =
      let sum = sum-insert new_order_total exact_new_order (counted h) r.new_orders j new_order_row in
      let none : number_at (counted h) j (get r.new_orders j) ≡ 0 = ap (number_at (counted h) j) new.new_order in
      let own : counted h j new_order_row ≡ if_of h h0 1 = refl in
      omega arith

  at_home : (a b : ℕ) → IsGreatest (HasNewOrder ordered_rows h0) a → IsLeast (HasNewOrder ordered_rows h0) b
      → a - b + 1 ≡ new_orders_of ordered_rows h0
  at_home a b ga lb = go (split b lb.0)
    where
      split : (i : ℕ) → HasNewOrder ordered_rows h0 i → (i ≡ o) ⊎ HasNewOrder r h0 i
      split i p = own_number new_order_total exact_new_order new_order_in district_of_new_order (λ i. i.order)
          (λ _ _. refl) (λ _ _. refl) h0 o r.new_orders new_order_row i p

      up : o ≤ a
      up = ga.1 o (present_own new_order_total exact_new_order r.new_orders j new_order_row)

      down : (a ≡ o) ⊎ HasNewOrder r h0 a → a ≤ o
      down (inl e) = omega arith
      down (inr p) = let h = new_order_below r g.meets g.condition_2 h0 d d_at a p in omega arith

      one : if_of h0 h0 1 ≡ 1
      one = ap (λ c. cond c 1 0) (is_self district_total exact_district h0)

      -- no order was in the queue
      empty : b ≡ o → (i : NewOrderKey) (x : NewOrder) → get r.new_orders i ≡ Some x → counted h0 i x ≡ 0
      empty e i x at = by_key (key_cases district_total exact_district (district_of_new_order i) h0)
        where
          by_key : (district_of_new_order i ≡ h0) ⊎ (eq_by_cmp district_cmp (district_of_new_order i) h0 ≡ false)
              → counted h0 i x ≡ 0
          by_key (inl s) =
              let p : HasNewOrder r h0 i.order = some_present (get r.new_orders (new_order_in h0 i.order)) x
              (ap (λ (h : DistrictKey). get r.new_orders (new_order_in h i.order)) (sym s) ∙ at) in
              let a = new_order_below r g.meets g.condition_2 h0 d d_at i.order p in
              let c = lb.1 i.order (still h0 i.order p) in
              absurd (let no : ⊥ = omega arith in no)
          by_key (inr n) = ap (λ c. cond c 1 0) n

      go : (b ≡ o) ⊎ HasNewOrder r h0 b → a - b + 1 ≡ new_orders_of ordered_rows h0
      go (inl e) =
          let sum = queue_sum h0 in
          let none : new_orders_of r h0 ≡ 0 = sum-none new_order_total exact_new_order (counted h0) r.new_orders
          (empty e) in
          let h = up in
          let i = down (split a ga.0) in
          let l = one in
          omega arith
      go (inr p) =
          let sum = queue_sum h0 in
          let last = (g.condition_2 h0 d d_at).new_orders b p in
          let number : o ≡ last.0 + 1 = last.1 in
          let before : last.0 - b + 1 ≡ new_orders_of r h0 = g.condition_3 h0 (some_present (get r.districts h0) d d_at)
          last.0 b last.2 (p, λ i s. lb.1 i (still h0 i s)) in
          let low : b ≤ last.0 = last.2.1 b p in
          let h = up in
          let i = down (split a ga.0) in
          let l = one in
          omega arith

  ordered_3 : Condition_3 ordered_rows
  ordered_3 h there a b ga lb = go (key_cases district_total exact_district h h0)
    where
      go : (h ≡ h0) ⊎ (eq_by_cmp district_cmp h h0 ≡ false) → a - b + 1 ≡ new_orders_of ordered_rows h
      go (inl s) =
          subst (λ (i : DistrictKey). a - b + 1 ≡ new_orders_of ordered_rows i) (sym s)
          (at_home a b (subst (λ (i : DistrictKey). IsGreatest (HasNewOrder ordered_rows i) a) s ga)
          (subst (λ (i : DistrictKey). IsLeast (HasNewOrder ordered_rows i) b) s lb))
      go (inr n) =
          let before : a - b + 1 ≡ new_orders_of r h =
          g.condition_3 h (was_district h there) a b (was_other h n a ga.0, λ i p. ga.1 i (still h i p))
          (was_other h n b lb.0, λ i p. lb.1 i (still h i p)) in
          let none : if_of h h0 1 ≡ 0 = ap (λ c. cond c 1 0) (not_turned district_total exact_district h h0 n) in
          let sum = queue_sum h in
          omega arith

  ordered_4 : Condition_4 ordered_rows
  ordered_4 h there =
      let of : OrderKey → Order → ℕ = λ i y. if_of h (district_of_order i) y.line_count in
      let orders : lines_asked ordered_rows h + number_at of k (get r.orders k) ≡ lines_asked r h + if_of h h0
      (length q.lines) = sum-insert order_total exact_order of r.orders k (order_row q) in
      let none : number_at of k (get r.orders k) ≡ 0 = ap (number_at of k) new.order in
      let are = lines_are q r q.lines [] fs fs_are in
      let lines : lines_there ordered_rows h ≡ lines_there r h + sum_by (λ (f : Filled). if_of h h0 1) fs =
      sum-with_all k (λ i y. if_of h (district_of_order (order_of_line i)) 1) (if_of h h0 1) (λ n x. refl) fs 0
      r.order_lines are.numbered (λ i less. new.lines i) in
      let before : lines_asked r h ≡ lines_there r h = g.condition_4 h (was_district h there) in
      let same : if_of h h0 (length q.lines) ≡ sum_by (λ (f : Filled). if_of h h0 1) fs =
      by_either (eq_by_cmp district_cmp h0 h) are.count in
      omega arith
    where
      by_either : (c : Bool) → length fs ≡ length q.lines
          → cond c (length q.lines) 0 ≡ sum_by (λ (f : Filled). cond c 1 0) fs
      by_either true e = sym e ∙ sym (ones fs)
      by_either false e = sym (zeros fs)

  pub ordered_good : Meets ordered_rows → IsStocked ordered_rows → Good (bump t f) ordered_rows
  ordered_good meets stocked = record {
    meets = meets;
    condition_1 = ordered_1;
    condition_2 = ordered_2;
    condition_3 = ordered_3;
    condition_4 = ordered_4;
    stocked = stocked;
    unused = λ i real less. let h = bump_below t f i.terminal in
        g.unused i real (let z : f i.terminal < i.number = omega arith in z);
  }

pub new_order_good : (f : ℕ → ℕ) (t : ℕ) (q : NewOrderRequest) (r after : Rows) (y : Reply) → Good f r → Meets after
    → IsStocked after → new_order_effect q r ≡ Some (after, y) → Good (bump t f) after
new_order_good f t q r after y g meets stocked e =
    let P : Type 0 = Good (bump t f) after in
    there P (get r.warehouses (warehouse_of_district q.district)) _ _ e (λ w _ e.
    there P (get r.districts q.district) _ _ e (λ d d_at e.
    there_in_range P next_out (with_next d) _ _ e (λ _ e.
    there P (get r.customers (customer_in q.district q.customer)) _ _ e (λ u _ e.
    there P (all_filled q r [] q.lines) _ _ e (λ fs fs_are e.
    let made : Rows = ordered_rows f t q r g d d_at fs fs_are in
    let same : made ≡ after = made_by made after _ y e in
    subst (λ (v : Rows). Good (bump t f) v) same
    (ordered_good f t q r g d d_at fs fs_are (subst (λ (v : Rows). Meets v) (sym same) meets)
    (subst (λ (v : Rows). IsStocked v) (sym same) stocked)))))))
