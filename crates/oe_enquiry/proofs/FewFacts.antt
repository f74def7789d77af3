-- Lines whose numbers are in their ranges are few.
use Rattle.std.proofs.Common.{◌≡◌, ℕ, suc, ◌+◌, ◌*◌, ◌-◌, ◌≤◌, ◌<◌, refl, sym, ap, ◌∙◌, subst, Bool, true, false}
use Rattle.std.proofs.Common.{cond, Option, None, Some, List, [], ◌∷◌, map, length, inl, inr, arith}
use Rattle.std.specs.Prelude.{T, ◌⊎◌, ◌&&◌, IsSome, nat_le, filter}
use Rattle.std.specs.Ordering.{eq_by_cmp, nat_cmp, ordering_then, is_lt}
use Rattle.std.specs.declared.cmp.Ordering.{Ordering}
use Rattle.std.specs.declared.cmp.Ordering.TheVariants.{Less, Equal, Greater}
use Rattle.std.specs.Cmp.{ranked}
use Rattle.std.specs.FinMap.{FinMap, get, entries, entries_sorted, retain_keys}
use Rattle.std.specs.FinMap.Entries.{is_sorted, is_sorted-where_key, below_all}
use Rattle.std.proofs.lemmas.Bool.{leb-true, leb-false}
use Rattle.oe_theory.specs.Machine.{Outcome, Here, Missing}
use Rattle.oe_rows.specs.Key.{district_cmp, order_cmp, order_line_cmp}
use Rattle.oe_rows.specs.declared.keys.DistrictKey.{DistrictKey}
use Rattle.oe_rows.specs.declared.keys.OrderKey.{OrderKey}
use Rattle.oe_rows.specs.declared.keys.OrderLineKey.{OrderLineKey}
use Rattle.oe_rows.specs.declared.keys.Key.TheVariants as key
use Rattle.oe_rows.proofs.KeyFacts.{district_total, exact_district, order_total, exact_order, order_line_total}
use Rattle.oe_rows.proofs.KeyFacts.{exact_order_line}
use Rattle.oe_rows.specs.declared.districts.District.{District}
use Rattle.oe_rows.specs.declared.orders.OrderLine.{OrderLine}
use Rattle.oe_rows.specs.declared.rows.Row.TheVariants as row
use Rattle.oe_requests.specs.declared.replies.QueryReply.{QueryReply}
use Rattle.oe_requests.specs.declared.replies.QueryReply.TheVariants as told
use Rattle.oe_requests.specs.declared.refusals.Refusal.{Refusal}
use Rattle.oe_requests.specs.declared.refusals.Refusal.TheVariants.{NoSuchRow}
use Rattle.oe_model.specs.Keys.{district_of_order, order_of_line}
use Rattle.oe_model.specs.Rows.{Rows}
use Rattle.oe_model.specs.Lists.{IsAmong}
use Rattle.oe_model.specs.Delivery.{lines_of}
use Rattle.oe_model.specs.Queries.{reply_with, is_recent, recent_lines, stock_level}
use Rattle.oe_model.specs.Rules.{IsLow}
use Rattle.oe_model.proofs.MapFacts.{is_same, is_self}
use Rattle.oe_model.proofs.EntryFacts.{EachOf, each_of, entries_at, kept_at, row_among}
use Rattle.oe_model.proofs.ListFacts.{kept_among}
use Rattle.oe_model.proofs.LevelFacts.{level_is_exact}
use Rattle.oe_model.proofs.PresenceFacts.{some-map, some_present}
use Rattle.oe_store.specs.Numbered.{AreNumbered}
use Rattle.oe_rows_of.proofs.ClimbFacts.{left, right, lower, same_number}
use Rattle.oe_enquiry.specs.Few.{Orders_are_short, Recent_are_few, Levels_are_small}
use Rattle.oe_enquiry.proofs.ListedFacts.{no_more, is_mapped}
use Rattle.oe_rows_of.specs.Then.{ArePassed}

-- entries in their keys' order, each of which has a number below a bound that rises with the keys, are no more than the
-- bound
module _ {K X : Type 0} (R : K → K → Ordering) (P : K → Type 0) (at : K → ℕ) (n : ℕ)
    (rises : (a b : K) → P a → P b → T (is_lt (R a b)) → at a < at b) (within : (a : K) → P a → at a < n) where
  few_from : (e : K × X) (es : List (K × X)) → T (below_all R e.0 es) → T (is_sorted R es) → P e.0
      → EachOf (λ g. P g.0) es → length es + suc (at e.0) ≤ n
  few_from e [] b s p ps = let less : at e.0 < n = within e.0 p in omega (arith, less)
  few_from e (g ∷ es) b s p ps =
      let less : at e.0 < at g.0 = rises e.0 g.0 p ps.0 (left (is_lt (R e.0 g.0)) (below_all R e.0 es) b) in
      let rest : length es + suc (at g.0) ≤ n = few_from g es (left (below_all R g.0 es) (is_sorted R es) s)
      (right (below_all R g.0 es) (is_sorted R es) s) ps.0 ps.1 in
      omega (arith, less, rest)

  pub few : (es : List (K × X)) → T (is_sorted R es) → EachOf (λ g. P g.0) es → length es ≤ n
  few [] s ps = omega arith
  few (e ∷ es) s ps =
      let all : length es + suc (at e.0) ≤ n = few_from e es (left (below_all R e.0 es) (is_sorted R es) s)
      (right (below_all R e.0 es) (is_sorted R es) s) ps.0 ps.1 in
      omega (arith, all)

-- what is kept of a list passes the test
pub kept_each : {A : Type 0} (p : A → Bool) (P : A → Type 0) (xs : List A) → EachOf P xs
    → EachOf (λ x. (p x ≡ true) × P x) (filter p xs)
kept_each p P [] h = tt
kept_each p P (x ∷ xs) h = by_test (p x) refl (kept_each p P xs h.1)
  where
    by_test : (b : Bool) → p x ≡ b → EachOf (λ x. (p x ≡ true) × P x) (filter p xs)
        → EachOf (λ x. (p x ≡ true) × P x) (cond b (x ∷ filter p xs) (filter p xs))
    by_test true t rest = ((t, h.0), rest)
    by_test false t rest = rest

pub both_true : (a b : Bool) → (a && b) ≡ true → (a ≡ true) × (b ≡ true)
both_true true b e = (refl, e)
both_true false b e = let no : ⊥ = cc in absurd no

le_leb : (a b : ℕ) → a ≤ b → nat_le a b ≡ true
le_leb a b h = by_test (nat_le a b) refl
  where
    by_test : (t : Bool) → nat_le a b ≡ t → t ≡ true
    by_test true e = refl
    by_test false e = let less = leb-false a b e in absurd (let no : ⊥ = omega arith in no)

-- the lines of recent orders stand at their keys
pub recent_rows : (h : DistrictKey) (next : ℕ) (lines : FinMap order_line_cmp OrderLine)
    → EachOf (λ e. (is_recent h next e.0 ≡ true) × (get lines e.0 ≡ Some e.1)) (recent_lines h next lines)
recent_rows h next lines =
    kept_each (λ e. is_recent h next e.0) (λ e. get lines e.0 ≡ Some e.1) (entries lines)
    (entries_at order_line_total lines)

-- of two lines of a district the one with the lower key has the lower order, or the lower number in the same order
order_below : (a b : OrderLineKey) (r : Ordering) → r ≡ nat_cmp a.order b.order
    → T (is_lt (ordering_then r (nat_cmp a.number b.number)))
    → (a.order < b.order) ⊎ ((a.order ≡ b.order) × (a.number < b.number))
order_below a b Less e l = inl (ranked a.order b.order Less e)
order_below a b Equal e l =
    inr (ranked a.order b.order Equal e, lower a.number b.number (nat_cmp a.number b.number) refl l)
order_below a b Greater e l = absurd l

district_line_below : (h : DistrictKey) (a b : OrderLineKey) → district_of_order (order_of_line a) ≡ h
    → district_of_order (order_of_line b) ≡ h → T (is_lt (order_line_cmp a b))
    → (a.order < b.order) ⊎ ((a.order ≡ b.order) × (a.number < b.number))
district_line_below h a b d e l =
    let w : a.warehouse ≡ b.warehouse = ap (λ (g : DistrictKey). g.warehouse) (d ∙ sym e) in
    let n : a.district ≡ b.district = ap (λ (g : DistrictKey). g.district) (d ∙ sym e) in
    order_below a b (nat_cmp a.order b.order) refl
    (subst T (ap is_lt (λ i. ordering_then (same_number a.warehouse b.warehouse w i)
    (ordering_then (same_number a.district b.district n i)
    (ordering_then (nat_cmp a.order b.order) (nat_cmp a.number b.number))))) l)

-- and of two lines of an order the one with the lower number
line_below : (k : OrderKey) (a b : OrderLineKey) → order_of_line a ≡ k → order_of_line b ≡ k
    → T (is_lt (order_line_cmp a b)) → a.number < b.number
line_below k a b d e l =
    by (district_line_below (district_of_order k) a b (ap district_of_order d) (ap district_of_order e) l)
  where
    same : a.order ≡ b.order
    same = ap (λ (g : OrderKey). g.order) (d ∙ sym e)

    by : (a.order < b.order) ⊎ ((a.order ≡ b.order) × (a.number < b.number)) → a.number < b.number
    by (inl less) = absurd (let no : ⊥ = omega (arith, same, less) in no)
    by (inr s) = s.1

none_found : (e : Refusal) (o : Option District) (f : District → Outcome QueryReply Refusal) → o ≡ None
    → reply_with e o f ≡ Missing e
none_found e o f h = ap (λ v. reply_with e v f) h

-- the numbers of lines are in their range
abbrev InRange : FinMap order_line_cmp OrderLine → Type 0
InRange lines = (k : OrderLineKey) → IsSome (get lines k) → (1 ≤ k.number) × (k.number ≤ 15)

module _ (r : Rows) (range : InRange r.order_lines) where
  pub orders_are_short : Orders_are_short r
  orders_are_short k =
      few order_line_cmp (λ q. (order_of_line q ≡ k) × ((1 ≤ q.number) × (q.number ≤ 15))) (λ q. q.number - 1) 15
      (λ a b p q l. let less : a.number < b.number = line_below k a b p.0 q.0 l in let low : 1 ≤ a.number = p.1.0 in
      omega (arith, less, low))
      (λ a p. let low : 1 ≤ a.number = p.1.0 in let high : a.number ≤ 15 = p.1.1 in omega (arith, low, high))
      (lines_of k r.order_lines) (entries_sorted (retain_keys r.order_lines own))
      (each_of (λ e. (own e.0 ≡ true) × (get r.order_lines e.0 ≡ Some e.1))
      (λ e. (order_of_line e.0 ≡ k) × ((1 ≤ e.0.number) × (e.0.number ≤ 15)))
      (λ e t. (
        is_same order_total exact_order (order_of_line e.0) k t.0,
        range e.0
            (some_present (get r.order_lines e.0) e.1 t.1),
      ))
      (lines_of k r.order_lines) (kept_at order_line_total exact_order_line r.order_lines own))
    where
      own : OrderLineKey → Bool
      own l = eq_by_cmp order_cmp (order_of_line l) k

  module _ (h : DistrictKey) (next : ℕ) where
    -- a line of one of the 20 orders before the next
    record IsOf (q : OrderLineKey) : Type 0 where
      district : district_of_order (order_of_line q) ≡ h
      first : next ≤ q.order + 20
      last : q.order < next
      low : 1 ≤ q.number
      high : q.number ≤ 15

    is_of : (q : OrderLineKey) → is_recent h next q ≡ true → (1 ≤ q.number) × (q.number ≤ 15) → IsOf q
    is_of q t n =
        let a = both_true _ _ t in
        let b = both_true _ _ a.0 in
        record {
          district = is_same district_total exact_district (district_of_order (order_of_line q)) h b.0;
          first = leb-true next (q.order + 20) b.1;
          last = (let l = leb-true (suc q.order) next a.1 in omega arith);
          low = n.0;
          high = n.1;
        }

    -- by its order's distance from the first of the 20, and its number
    abbrev at : OrderLineKey → ℕ
    at q = 15 * (q.order + 20 - next) + (q.number - 1)

    at_rises : (a b : OrderLineKey) → IsOf a → IsOf b → T (is_lt (order_line_cmp a b)) → at a < at b
    at_rises a b p q l = by (district_line_below h a b p.district q.district l)
      where
        by : (a.order < b.order) ⊎ ((a.order ≡ b.order) × (a.number < b.number)) → at a < at b
        by (inl less) = let f : next ≤ a.order + 20 = p.first in let m : a.number ≤ 15 = p.high in
            let o : 1 ≤ a.number = p.low in omega (arith, less, f, m, o)
        by (inr s) = let e : a.order ≡ b.order = s.0 in let less : a.number < b.number = s.1 in
            let o : 1 ≤ a.number = p.low in omega (arith, e, less, o)

    pub lines_are_recent : length (recent_lines h next r.order_lines) ≤ 300
    lines_are_recent =
        few order_line_cmp IsOf at 300 at_rises
        (λ a p. let l : a.order < next = p.last in let m : a.number ≤ 15 = p.high in let o : 1 ≤ a.number = p.low in
        omega (arith, l, m, o))
        (recent_lines h next r.order_lines)
        (is_sorted-where_key order_line_cmp (is_recent h next) (entries r.order_lines)
        (entries_sorted r.order_lines))
        (each_of (λ e. (is_recent h next e.0 ≡ true) × (get r.order_lines e.0 ≡ Some e.1)) (λ e. IsOf e.0)
        (λ e t. is_of e.0 t.0 (range e.0 (some_present (get r.order_lines e.0) e.1 t.1)))
        (recent_lines h next r.order_lines)
        (kept_each (λ e. is_recent h next e.0) (λ e. get r.order_lines e.0 ≡ Some e.1) (entries r.order_lines)
        (entries_at order_line_total r.order_lines)))

  pub recent_are_few : Recent_are_few r
  recent_are_few h next = lines_are_recent h next

  pub levels_are_small : Levels_are_small r
  levels_are_small q n is = by (get r.districts q.district) refl
    where
      -- a low item is that of a line of the last 20 orders
      named : (next i : ℕ) → IsLow q r next i
          → IsAmong i (map (λ (e : OrderLineKey × OrderLine). e.1.item) (recent_lines q.district next r.order_lines))
      named next i l =
          let recent : is_recent q.district next l.line_key ≡ true =
          λ j. ((ap (λ (d : DistrictKey). eq_by_cmp district_cmp d q.district) l.district
          ∙ is_self district_total exact_district q.district) j && le_leb next (l.line_key.order + 20) l.first j)
          && le_leb (suc l.line_key.order) next (let less = l.last in omega arith) j in
          subst (λ z. IsAmong z
          (map (λ (e : OrderLineKey × OrderLine). e.1.item) (recent_lines q.district next r.order_lines))) l.item
          (is_mapped (λ (e : OrderLineKey × OrderLine). e.1.item) (recent_lines q.district next r.order_lines)
          (l.line_key, l.line)
          (kept_among (λ (e : OrderLineKey × OrderLine). is_recent q.district next e.0) (entries r.order_lines)
          (l.line_key, l.line)
          (row_among order_line_total exact_order_line r.order_lines l.line_key l.line l.line_at) recent))

      map_length : {A B : Type 0} (f : A → B) (xs : List A) → length (map f xs) ≡ length xs
      map_length f [] = refl
      map_length f (x ∷ xs) = let h = map_length f xs in omega arith

      by : (o : Option District) → get r.districts q.district ≡ o → n ≤ 300
      by None e =
          let none : stock_level q r ≡ Missing (NoSuchRow (key.District q.district)) =
          none_found (NoSuchRow (key.District q.district)) (get r.districts q.district) _ e in
          let h : ◌≡◌ {A = Outcome QueryReply Refusal} (Missing (NoSuchRow (key.District q.district)))
          (Here (told.Level n)) = sym none ∙ is in
          let no : ⊥ = cc in absurd no
      by (Some x) e =
          let l = level_is_exact q r x e in
          let same : length l.0 ≡ n =
          (let h : ◌≡◌ {A = Outcome QueryReply Refusal} (Here (told.Level (length l.0))) (Here (told.Level n)) = sym
          l.1 ∙ is in cc) in
          let more : length l.0 ≤ length
          (map (λ (e : OrderLineKey × OrderLine). e.1.item) (recent_lines q.district x.next_order r.order_lines)) =
          no_more l.0 (map (λ (e : OrderLineKey × OrderLine). e.1.item)
          (recent_lines q.district x.next_order r.order_lines)) l.2.distinct (λ i j. named x.next_order i
          (l.2.each i j))
          in
          let all : length (map (λ (e : OrderLineKey × OrderLine). e.1.item)
          (recent_lines q.district x.next_order r.order_lines)) ≡ length (recent_lines q.district x.next_order
          r.order_lines) =
          map_length (λ (e : OrderLineKey × OrderLine). e.1.item) (recent_lines q.district x.next_order r.order_lines)
          in
          let few : length (recent_lines q.district x.next_order r.order_lines) ≤ 300 =
          lines_are_recent q.district x.next_order in
          omega (arith, same, more, all, few)

-- lines that a walk passes stand now, so that their numbers are in range
pub in_range_past : (now past : Rows) → ArePassed past now → AreNumbered now → InRange past.order_lines
in_range_past now past passed numbered k h =
    let n = (numbered (key.OrderLine k) (some-map row.OrderLine (get now.order_lines k) ∙ passed.order_lines k h)).1 in
    (n.0, n.1)
