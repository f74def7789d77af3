-- Condition 7 is checked: the lines of an order, all or none of them delivered.
use Rattle.std.proofs.Common.{◌≡◌, ℕ, ◌+◌, refl, sym, ◌∙◌, ap, subst, Bool, true, false, cond, Option, Some, None, List}
use Rattle.std.proofs.Common.{[], ◌∷◌, arith, ℤ, pos, ◌+ℤ◌}
use Rattle.std.specs.Prelude.{◌↔◌, is_some, unwrap_or, option_map}
use Rattle.std.specs.Int.{int_max}
use Rattle.std.specs.Cmp.{IsTotalOrder}
use Rattle.std.specs.Ordering.{eq_by_cmp, int_eq}
use Rattle.std.specs.declared.cmp.Ordering.{Ordering}
use Rattle.std.specs.FinMap.{FinMap, IsAntisymmetric, get, entries}
use lib.IntN.{+ℤ_assoc, +ℤ_comm}
use Rattle.oe_rows.specs.Key.{order_cmp}
use Rattle.oe_rows.specs.declared.keys.OrderKey.{OrderKey}
use Rattle.oe_rows.specs.declared.keys.OrderLineKey.{OrderLineKey}
use Rattle.oe_rows.specs.declared.orders.Order.{Order}
use Rattle.oe_rows.specs.declared.orders.OrderLine.{OrderLine}
use Rattle.oe_rows.proofs.KeyFacts.{order_total, exact_order, order_line_total, exact_order_line}
use Rattle.oe_model.specs.Keys.{order_of_line}
use Rattle.oe_model.specs.Rows.{Rows}
use Rattle.oe_model.specs.Maps as maps
use Rattle.oe_model.specs.FurtherConditions as further
use Rattle.oe_model.specs.FurtherConditions.{if_of_order, lines_of_order}
use Rattle.oe_model.proofs.MapFacts.{is_self}
use Rattle.oe_model.proofs.SumFacts.{sum_in, sum-cons}
use Rattle.oe_movements.proofs.LocalFacts.{none_counts}
use Rattle.oe_ledgers.specs.ColumnLaws.{int_max_associative, int_max_commutative}
use Rattle.oe_ledgers.specs.Keys.{same_order}
use Rattle.oe_ledgers.specs.Figures as figures
use Rattle.oe_ledgers.specs.Figures.{is_delivered, delivered_lines}
use Rattle.oe_checks.specs.Comparing.{all_or_none, unless_equal}
use Rattle.oe_checks.specs.Conditions as checks
use Rattle.oe_fact_laws.specs.Facts.{Facts, AreFactsOf, order_fact, line_fact, order_id}
use Rattle.oe_fact_laws.specs.FactLaws.{FindsNothing}
use Rattle.oe_fact_laws.proofs.FigureFacts.{of_row, sum_of_group, none_there}
use Rattle.oe_fact_laws.proofs.ConditionTies.{lines_are}
use Rattle.oe_fact_laws.proofs.TiedFacts.{order_tie, both_ways, by_rows, equal_tied, numbers_tied, counts_for}

module _ {K X : Type 0} {R : K → K → Ordering} (o : IsTotalOrder R) (exact : IsAntisymmetric R) (m : FinMap R X) where
  -- a sum in two parts
  pub in_parts : (F G H : K → X → ℕ) → ((k : K) (x : X) → F k x ≡ G k x + H k x)
      → maps.sum_of F m ≡ maps.sum_of G m + maps.sum_of H m
  in_parts F G H each = along (entries m)
    where
      along : (es : List (K × X)) → sum_in F es ≡ sum_in G es + sum_in H es
      along [] = refl
      along (e ∷ es) =
          let a = sum-cons F e es in
          let b = sum-cons G e es in
          let c = sum-cons H e es in
          let d = along es in
          let h = each e.0 e.1 in
          omega arith

module _ (f : Facts) (r : Rows) (are : AreFactsOf f r) (k : OrderKey) where
  -- what holds of each line of the order
  abbrev EachLine : (OrderLine → Type 0) → Type 0
  EachLine P = (l : OrderLineKey) (y : OrderLine) → get r.order_lines l ≡ Some y → order_of_line l ≡ k → P y

  -- the number of its lines that have a date, and that have none
  abbrev dated_lines : ℕ
  dated_lines = maps.sum_of (λ l y. if_of_order k (order_of_line l) (cond (is_some y.delivery) 1 0)) r.order_lines

  abbrev undated_lines : ℕ
  undated_lines = maps.sum_of (λ l y. if_of_order k (order_of_line l) (cond (is_some y.delivery) 0 1)) r.order_lines

  two_kinds : lines_of_order r k ≡ dated_lines + undated_lines
  two_kinds =
      in_parts order_line_total exact_order_line r.order_lines (λ l y. if_of_order k (order_of_line l) 1)
      (λ l y. if_of_order k (order_of_line l) (cond (is_some y.delivery) 1 0))
      (λ l y. if_of_order k (order_of_line l) (cond (is_some y.delivery) 0 1))
      (λ l y. by_test (eq_by_cmp order_cmp (order_of_line l) k) (is_some y.delivery))
    where
      by_test : (a b : Bool) → cond a 1 0 ≡ cond a (cond b 1 0) 0 + cond a (cond b 0 1) 0
      by_test true true = refl
      by_test true false = refl
      by_test false b = refl

  abbrev all_lines : Option ℤ
  all_lines = figures.lines_of_order f.order_lines (order_id k)

  abbrev with_date : Option ℤ
  with_date = delivered_lines f.order_lines (order_id k)

  with_date_is : unwrap_or with_date (pos 0) ≡ pos dated_lines
  with_date_is =
      sum_of_group order_line_total line_fact r.order_lines f.order_lines are.order_lines same_order (λ z. z.order)
      (λ z. pos (cond z.is_delivered 1 0)) (order_id k)
      (λ l y. if_of_order k (order_of_line l) (cond (is_some y.delivery) 1 0))
      (λ l y e. counts_for _ _ (cond (is_some y.delivery) 1 0) (order_tie (order_of_line l) k))

  abbrev Agree : Option ℕ → Type 0
  Agree carrier = EachLine (λ y. (y.delivery ≡ None) ↔ (carrier ≡ None))

  -- where no line is of the order
  vacuous : (carrier : Option ℕ)
      → ((l : OrderLineKey) (y : OrderLine) → get r.order_lines l ≡ Some y
      → same_order (order_id (order_of_line l)) (order_id k) ≡ false) → Agree carrier
  vacuous carrier h l y at s =
      let t : same_order (order_id (order_of_line l)) (order_id k) ≡ true = order_tie (order_of_line l) k
      ∙ ap (λ (i : OrderKey). eq_by_cmp order_cmp i k) s ∙ is_self order_total exact_order k in
      let no : true ≡ false = sym t ∙ h l y at in
      absurd (let z : ⊥ = cc in z)

  none_of : (column : _) → Rattle.oe_ledgers.specs.Figures.sum_of same_order (λ z. z.order) column f.order_lines
      (order_id k) ≡ None
      → (l : OrderLineKey) (y : OrderLine) → get r.order_lines l ≡ Some y
      → same_order (order_id (order_of_line l)) (order_id k) ≡ false
  none_of column e =
      none_there order_line_total exact_order_line line_fact r.order_lines f.order_lines are.order_lines same_order
      (λ z. z.order) (λ a b. a +ℤ b) +ℤ_assoc +ℤ_comm column (order_id k) e

  -- all, or none
  undated : (dated_lines ≡ 0) ↔ Agree None
  undated = both_ways (none_counts r k (λ l y. cond (is_some y.delivery) 1 0)) (
    λ h l y at s. (λ _. refl, λ _. of_none y.delivery (h l y at s)),
    λ h l y at s. to_none y.delivery ((h l y at s).1 refl),
  )
    where
      of_none : (v : Option ℕ) → ◌≡◌ {A = ℕ} (cond (is_some v) 1 0) 0 → v ≡ None
      of_none None e = refl
      of_none (Some n) e = let no : ⊥ = omega arith in absurd no

      to_none : (v : Option ℕ) → v ≡ None → ◌≡◌ {A = ℕ} (cond (is_some v) 1 0) 0
      to_none v e = ap (λ z. cond (is_some z) 1 0) e

  dated : (c : ℕ) → (undated_lines ≡ 0) ↔ Agree (Some c)
  dated c = both_ways (none_counts r k (λ l y. cond (is_some y.delivery) 0 1)) (
    λ h l y at s. of_some y.delivery (h l y at s),
    λ h l y at s. to_some y.delivery (h l y at s),
  )
    where
      of_some : (v : Option ℕ) → ◌≡◌ {A = ℕ} (cond (is_some v) 0 1) 0 → (v ≡ None) ↔ (Some c ≡ None)
      of_some None e = let no : ⊥ = omega arith in absurd no
      of_some (Some n) e = (λ g. let no : ⊥ = cc in absurd no, λ g. let no : ⊥ = cc in absurd no)

      to_some : (v : Option ℕ) → (v ≡ None) ↔ (Some c ≡ None) → ◌≡◌ {A = ℕ} (cond (is_some v) 0 1) 0
      to_some None h = let g : Some c ≡ None = h.0 refl in let no : ⊥ = cc in absurd no
      to_some (Some n) h = refl

  by_carrier : (carrier : Option ℕ) (a b : ℤ) → a ≡ pos (lines_of_order r k) → b ≡ pos dated_lines
      → (unless_equal (cond (int_eq (pos (cond (is_some carrier) 1 0)) (pos 1)) a (pos 0)) b ≡ None) ↔ Agree carrier
  by_carrier None a b is_a is_b =
      both_ways (equal_tied (pos 0) b)
      (both_ways (
        λ e. (let z : dated_lines ≡ 0 = (numbers_tied dated_lines 0).0 (sym is_b ∙ sym e) in z),
        λ e. ap pos (sym e) ∙ sym is_b,
      ) undated)
  by_carrier (Some c) a b is_a is_b =
      both_ways (equal_tied a b) (both_ways (
        λ e.
            let same : lines_of_order r k ≡ dated_lines = (numbers_tied (lines_of_order r k) dated_lines).0
            (sym is_a ∙ e ∙ is_b) in
            let kinds = two_kinds in
            (let z : undated_lines ≡ 0 = omega arith in z),
        λ e.
            let kinds = two_kinds in
            let same : lines_of_order r k ≡ dated_lines = omega arith in
            is_a ∙ ap pos same ∙ sym is_b,
      ) (dated c))

  pub lines_tied : (carrier : Option ℕ)
      → (all_or_none (Some (pos (cond (is_some carrier) 1 0))) all_lines with_date ≡ None) ↔ Agree carrier
  lines_tied carrier = go all_lines with_date refl refl (lines_are f r are k) with_date_is
    where
      go : (a b : Option ℤ) → all_lines ≡ a → with_date ≡ b → unwrap_or a (pos 0) ≡ pos (lines_of_order r k)
          → unwrap_or b (pos 0) ≡ pos dated_lines
          → (all_or_none (Some (pos (cond (is_some carrier) 1 0))) a b ≡ None) ↔ Agree carrier
      go None b e g is_a is_b = (λ _. vacuous carrier (none_of (λ z. pos 1) e), λ _. refl)
      go (Some a) None e g is_a is_b =
          (λ _. vacuous carrier (none_of (λ z. pos (cond z.is_delivered 1 0)) g), λ _. refl)
      go (Some a) (Some b) e g is_a is_b = by_carrier carrier a b is_a is_b

module _ (f : Facts) (r : Rows) (are : AreFactsOf f r) where
  abbrev OfOrder : OrderKey → Order → Type 0
  OfOrder k x = (l : OrderLineKey) (y : OrderLine) → get r.order_lines l ≡ Some y → order_of_line l ≡ k
      → (y.delivery ≡ None) ↔ (x.carrier ≡ None)

  flag_is : (k : OrderKey) → is_delivered f.orders (order_id k) ≡ option_map (λ x. pos (cond (is_some x.carrier) 1 0))
      (get r.orders k)
  flag_is k =
      of_row order_total exact_order order_fact r.orders f.orders are.orders same_order (λ z. z.key) int_max
      int_max_associative int_max_commutative (λ z. pos (cond z.is_delivered 1 0)) order_id (λ a x b. order_tie a b) k

  pub condition_7 : FindsNothing (checks.condition_7 f.orders f.order_lines) ↔ further.Condition_7 r
  condition_7 =
      both_ways
      (by_rows (checks.condition_7 f.orders f.order_lines) r.orders OfOrder order_id
      (λ j. record { warehouse = j.warehouse; district = j.district; order = j.order }) (λ j. refl)
      (λ k e. ap (λ v. all_or_none v (figures.lines_of_order f.order_lines (order_id k))
      (delivered_lines f.order_lines (order_id k)))
      (flag_is k ∙ ap (option_map (λ (x : Order). pos (cond (is_some x.carrier) 1 0))) e))
      (λ k x e. subst (λ v. (all_or_none v (figures.lines_of_order f.order_lines (order_id k))
      (delivered_lines f.order_lines (order_id k)) ≡ None) ↔ OfOrder k x)
      (sym (flag_is k ∙ ap (option_map (λ (x : Order). pos (cond (is_some x.carrier) 1 0))) e))
      (lines_tied f r are k x.carrier))) (
        λ h l y e x g. h (order_of_line l) x g l y e refl,
        λ c k x g l y e s. c l y e x (ap (get r.orders) s ∙ g),
      )
