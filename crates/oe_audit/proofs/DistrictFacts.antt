-- The rows of a district, as the consistency conditions count them.
use Rattle.std.proofs.Common.{◌≡◌, ℕ, suc, ◌+◌, ◌-◌, ◌<◌, refl, sym, ◌∙◌, ap, subst, Bool, true, false, List, [], ◌∷◌}
use Rattle.std.proofs.Common.{map, length, Some, None, arith}
use Rattle.std.specs.Prelude.{T, ◌&&◌, ◌==◌, sum_by}
use Rattle.std.specs.declared.cmp.Ordering.TheVariants.{Equal}
use Rattle.std.specs.Cmp.{nat_cmp_is}
use Rattle.std.specs.Ordering.{eq_by_cmp, is_lt, nat_cmp, ordering_then}
use Rattle.std.specs.FinMap.{get, entries, entries_sorted, retain_keys}
use Rattle.std.specs.FinMap.Entries.{is_sorted, below_all}
use Rattle.std.proofs.lemmas.List.Sums.{sum_by-cons}
use Rattle.oe_rows.specs.Key.{district_cmp, new_order_cmp}
use Rattle.oe_rows.specs.declared.keys.DistrictKey.{DistrictKey}
use Rattle.oe_rows.specs.declared.keys.NewOrderKey.{NewOrderKey}
use Rattle.oe_rows.specs.declared.orders.NewOrder.{NewOrder}
use Rattle.oe_rows.proofs.KeyFacts.{district_total, exact_district, new_order_total, exact_new_order, order_total}
use Rattle.oe_rows.proofs.KeyFacts.{exact_order, order_line_total, exact_order_line}
use Rattle.oe_model.specs.Keys.{district_of_new_order, district_of_order, order_of_line}
use Rattle.oe_model.specs.Rows.{Rows}
use Rattle.oe_model.specs.Conditions.{new_orders_of, lines_asked, lines_there}
use Rattle.oe_model.specs.Audits.{greatest, least, none_or, new_order_numbers}
use Rattle.oe_model.proofs.MapFacts.{is_same}
use Rattle.oe_model.proofs.EntryFacts.{EachOf, each_of, kept_at}
use Rattle.oe_store.specs.Places.{entries_of}
use Rattle.oe_audit.specs.Tests.{are_counted, lines_agree}
use Rattle.oe_model.proofs.GroupFacts.{sum_of_group}
use Rattle.oe_rows_of.proofs.ClimbFacts.{lower}
use Rattle.oe_audit.proofs.NumberFacts.{Rises, Rise, has_no_gap, gaps_counted}

left : (a b : Bool) → T (a && b) → T a
left true b p = tt
left false b p = p

right : (a b : Bool) → T (a && b) → T b
right true b p = p
right false b p = absurd p

same_number : (n m : ℕ) → n ≡ m → nat_cmp n m ≡ Equal
same_number n m e = sym (nat_cmp_is n m Equal e)

pub ones : {A : Type 0} (xs : List A) → sum_by (λ x. 1) xs ≡ length xs
ones [] = refl
ones (x ∷ xs) = let s = sum_by-cons (λ y. 1) x xs in let t = ones xs in omega arith

length_mapped : {A B : Type 0} (f : A → B) (xs : List A) → length (map f xs) ≡ length xs
length_mapped f [] = refl
length_mapped f (x ∷ xs) = ap suc (length_mapped f xs)

module _ (h : DistrictKey) where
  order_below : (a b : NewOrderKey) → district_of_new_order a ≡ h → district_of_new_order b ≡ h
      → T (is_lt (new_order_cmp a b)) → a.order < b.order
  order_below a b d e l =
      let w : a.warehouse ≡ b.warehouse = ap (λ (g : DistrictKey). g.warehouse) (d ∙ sym e) in
      let n : a.district ≡ b.district = ap (λ (g : DistrictKey). g.district) (d ∙ sym e) in
      lower a.order b.order (nat_cmp a.order b.order) refl
      (subst T (ap is_lt (λ i. ordering_then (same_number a.warehouse b.warehouse w i)
      (ordering_then (same_number a.district b.district n i) (nat_cmp a.order b.order)))) l)

  abbrev is_own : NewOrderKey × NewOrder → Type 0
  is_own e = district_of_new_order e.0 ≡ h

  abbrev number : NewOrderKey × NewOrder → ℕ
  number e = e.0.order

  rise_from : (e : NewOrderKey × NewOrder) (es : List (NewOrderKey × NewOrder)) → T (below_all new_order_cmp e.0 es)
      → T (is_sorted new_order_cmp es) → is_own e → EachOf is_own es → Rises e.0.order (map number es)
  rise_from e [] b s d ds = tt
  rise_from e (f ∷ es) b s d ds = (
    order_below e.0 f.0 d ds.0 (left (is_lt (new_order_cmp e.0 f.0)) (below_all new_order_cmp e.0 es) b),
    rise_from f es (left (below_all new_order_cmp f.0 es) (is_sorted new_order_cmp es) s)
        (right (below_all new_order_cmp f.0 es) (is_sorted new_order_cmp es) s) ds.0 ds.1,
  )

  rise : (es : List (NewOrderKey × NewOrder)) → T (is_sorted new_order_cmp es) → EachOf is_own es → Rise (map number es)
  rise [] s ds = tt
  rise (e ∷ es) s ds = rise_from e es (left (below_all new_order_cmp e.0 es) (is_sorted new_order_cmp es) s)
      (right (below_all new_order_cmp e.0 es) (is_sorted new_order_cmp es) s) ds.0 ds.1

module _ (r : Rows) (h : DistrictKey) where
  abbrev own : NewOrderKey → Bool
  own k = eq_by_cmp district_cmp (district_of_new_order k) h

  abbrev waiting : List (NewOrderKey × NewOrder)
  waiting = entries (retain_keys r.new_orders own)

  waiting_rise : Rise (new_order_numbers h r.new_orders)
  waiting_rise =
      rise h waiting (entries_sorted (retain_keys r.new_orders own))
      (each_of (λ e. (own e.0 ≡ true) × (get r.new_orders e.0 ≡ Some e.1)) (is_own h)
      (λ e t. is_same district_total exact_district (district_of_new_order e.0) h t.0) waiting
      (kept_at new_order_total exact_new_order r.new_orders own))

  waiting_counted : length (new_order_numbers h r.new_orders) ≡ new_orders_of r h
  waiting_counted =
      length_mapped (number h) waiting ∙ sym (ones waiting)
      ∙ sym (sum_of_group new_order_total exact_new_order r.new_orders own (λ k x. 1))

  -- the third condition: the NO_O_IDs have no gap
  pub third_is : has_no_gap None (new_order_numbers h r.new_orders) ≡ are_counted r h
  third_is =
      gaps_counted (new_order_numbers h r.new_orders) waiting_rise
      ∙ ap (λ n. none_or (greatest (new_order_numbers h r.new_orders))
      (λ g. none_or (least (new_order_numbers h r.new_orders)) (λ l. g - l + 1 == n))) waiting_counted

  -- the fourth: what the walks of its orders and lines count
  pub asked_is : lines_asked r h ≡ sum_by (λ e. e.1.line_count) (entries_of district_cmp district_of_order h r.orders)
  asked_is = sum_of_group order_total exact_order r.orders (λ k. eq_by_cmp district_cmp (district_of_order k) h)
      (λ k x. x.line_count)

  pub there_is : lines_there r h ≡ length
      (entries_of district_cmp (λ k. district_of_order (order_of_line k)) h r.order_lines)
  there_is = sum_of_group order_line_total exact_order_line r.order_lines
      (λ k. eq_by_cmp district_cmp (district_of_order (order_of_line k)) h) (λ k x. 1) ∙ ones _

  pub agrees : (lines_asked r h == lines_there r h) ≡ lines_agree r h
  unfolding lines_agree
  agrees = refl
