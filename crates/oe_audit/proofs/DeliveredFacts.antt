-- What was delivered to a district's customer is what the district's ORDER-LINE rows add up to, each as it stood then.
use Rattle.std.proofs.Common.{◌≡◌, ℕ, ◌+◌, refl, sym, ◌∙◌, ap, Bool, true, false, cond, List, [], ◌∷◌, Option, Some}
use Rattle.std.proofs.Common.{None, inl, inr, zero-add}
use Rattle.std.specs.Prelude.{◌⊎◌, ◌&&◌, is_some, option_map, sum_by}
use Rattle.std.specs.List.{cons_option}
use Rattle.std.specs.Ordering.{eq_by_cmp}
use Rattle.std.specs.FinMap.{get, entries}
use Rattle.std.proofs.lemmas.List.Sums.{sum_by-cons}
use Rattle.oe_rows.specs.Key.{district_cmp, customer_cmp}
use Rattle.oe_rows.specs.declared.keys.DistrictKey.{DistrictKey}
use Rattle.oe_rows.specs.declared.keys.OrderKey.{OrderKey}
use Rattle.oe_rows.specs.declared.keys.OrderLineKey.{OrderLineKey}
use Rattle.oe_rows.specs.declared.orders.Order.{Order}
use Rattle.oe_rows.specs.declared.orders.OrderLine.{OrderLine}
use Rattle.oe_rows.proofs.KeyFacts.{district_total, exact_district, customer_total, exact_customer, order_line_total}
use Rattle.oe_rows.proofs.KeyFacts.{exact_order_line}
use Rattle.oe_model.specs.Keys.{district_of_customer, district_of_order, order_of_line, customer_in}
use Rattle.oe_model.specs.Rows.{Rows}
use Rattle.oe_model.specs.FurtherConditions.{amount_for, delivered_for}
use Rattle.oe_model.proofs.GroupFacts.{sum_of_group}
use Rattle.oe_model.proofs.MapFacts.{is_same, is_self}
use Rattle.oe_model.proofs.EntryFacts.{each_of, entries_at}
use Rattle.oe_model.proofs.SumFacts.{sum_same}
use Rattle.oe_model.proofs.PresenceFacts.{key_cases}
use Rattle.oe_store.specs.Places.{entries_of}
use Rattle.oe_rows_of.specs.Then.{row_then, ArePassed, AreNow}
use Rattle.oe_audit.specs.Walks.{entries_then}
use Rattle.oe_audit.specs.Ledgers.{line_adds, line_then_adds}
use Rattle.oe_audit.proofs.StoodFacts.{lines_are}

-- an order of another district is not the customer's
other_customer : (h g : DistrictKey) (c n : ℕ) → eq_by_cmp district_cmp g h ≡ false
    → eq_by_cmp customer_cmp (customer_in g n) (customer_in h c) ≡ false
other_customer h g c n e = go (key_cases customer_total exact_customer (customer_in g n) (customer_in h c))
  where
    go : (customer_in g n ≡ customer_in h c) ⊎ (eq_by_cmp customer_cmp (customer_in g n) (customer_in h c) ≡ false)
        → eq_by_cmp customer_cmp (customer_in g n) (customer_in h c) ≡ false
    go (inl s) =
        let same : g ≡ h = ap district_of_customer s in
        let z : true ≡ false = sym (is_self district_total exact_district g) ∙ ap (eq_by_cmp district_cmp g) same ∙ e in
        let no : ⊥ = cc in absurd no
    go (inr t) = t

none_for : (h : DistrictKey) (c : ℕ) (k : OrderKey) (v : Option Order) (y : OrderLine)
    → eq_by_cmp district_cmp (district_of_order k) h ≡ false → amount_for (customer_in h c) k v y ≡ 0
none_for h c k None y e = refl
none_for h c k (Some x) y e = ap (λ b. cond (b && is_some y.delivery) y.amount 0)
    (other_customer h (district_of_order k) c x.customer e)

module _ (r : Rows) (h : DistrictKey) (c : ℕ) where
  abbrev own : OrderLineKey → Bool
  own l = eq_by_cmp district_cmp (district_of_order (order_of_line l)) h

  adds : OrderLineKey → OrderLine → ℕ
  adds l y = amount_for (customer_in h c) (order_of_line l) (get r.orders (order_of_line l)) y

  -- lines of the district alone count
  alone : (l : OrderLineKey) (y : OrderLine) → (b : Bool) → own l ≡ b
      → amount_for (customer_in h c) (order_of_line l) (get r.orders (order_of_line l)) y ≡ cond b (line_adds r l y c) 0
  alone l y true e =
      ap (λ (g : DistrictKey). amount_for (customer_in g c) (order_of_line l) (get r.orders (order_of_line l)) y)
      (sym (is_same district_total exact_district (district_of_order (order_of_line l)) h e))
  alone l y false e = none_for h c (order_of_line l) (get r.orders (order_of_line l)) y e

  pub delivered_is : delivered_for r (customer_in h c) ≡ sum_by (λ e. line_adds r e.0 e.1 c)
      (entries_of district_cmp (λ k. district_of_order (order_of_line k)) h r.order_lines)
  delivered_is =
      sum_same (λ l y. amount_for (customer_in h c) (order_of_line l) (get r.orders (order_of_line l)) y)
      (λ l y. cond (own l) (line_adds r l y c) 0) (entries r.order_lines)
      (each_of (λ e. get r.order_lines e.0 ≡ Some e.1) _ (λ e _. alone e.0 e.1 (own e.0) refl) (entries r.order_lines)
      (entries_at order_line_total r.order_lines))
      ∙ sum_of_group order_line_total exact_order_line r.order_lines own (λ l y. line_adds r l y c)

-- the rows that stood, or each of the rows that stand as it stood
sum_stood : (r : Rows) (w : Bool) (c : ℕ) (es : List (OrderLineKey × OrderLine))
    → sum_by (λ e. line_adds r e.0 e.1 c) (entries_then w r.order_lines es) ≡ sum_by
    (λ e. line_then_adds r e.0 (row_then w r.order_lines e.0 e.1) c) es
sum_stood r w c [] = refl
sum_stood r w c (e ∷ es) = go (row_then w r.order_lines e.0 e.1) refl (sum_stood r w c es)
  where
    here : OrderLineKey × OrderLine → ℕ
    here d = line_adds r d.0 d.1 c

    then : OrderLineKey × OrderLine → ℕ
    then d = line_then_adds r d.0 (row_then w r.order_lines d.0 d.1) c

    with_first : Option OrderLine → List (OrderLineKey × OrderLine)
    with_first v = cons_option (option_map (λ y. (e.0, y)) v) (entries_then w r.order_lines es)

    go : (v : Option OrderLine) → row_then w r.order_lines e.0 e.1 ≡ v
        → sum_by here (entries_then w r.order_lines es) ≡ sum_by then es
        → sum_by here (entries_then w r.order_lines (e ∷ es)) ≡ sum_by then (e ∷ es)
    go None t rest =
        ap (λ v. sum_by here (with_first v)) t ∙ rest
        ∙ sym (sum_by-cons then e es ∙ ap (λ v. line_then_adds r e.0 v c + sum_by then es) t
        ∙ zero-add (sum_by then es))
    go (Some y) t rest =
        ap (λ v. sum_by here (with_first v)) t ∙ sum_by-cons here (e.0, y) (entries_then w r.order_lines es)
        ∙ (λ i. line_adds r e.0 y c + rest i)
        ∙ sym (sum_by-cons then e es ∙ ap (λ v. line_then_adds r e.0 v c + sum_by then es) t)

module _ (now past : Rows) (w : Bool) (same : AreNow w past now) (h : ArePassed past now) where
  pub delivered_was : (g : DistrictKey) (c : ℕ) → delivered_for past (customer_in g c)
      ≡ sum_by (λ e. line_then_adds past e.0 (row_then w past.order_lines e.0 e.1) c)
      (entries_of district_cmp (λ k. district_of_order (order_of_line k)) g now.order_lines)
  delivered_was g c =
      delivered_is past g c ∙ ap (sum_by (λ e. line_adds past e.0 e.1 c)) (lines_are now past w same h g)
      ∙ sum_stood past w c (entries_of district_cmp (λ k. district_of_order (order_of_line k)) g now.order_lines)
