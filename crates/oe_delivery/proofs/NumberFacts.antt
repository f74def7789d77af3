-- An order's lines by OL_NUMBER: the numbers rise strictly from 1 on, so that fewer lines stand before one than its
-- number.
use Rattle.std.proofs.Common.{◌≡◌, ℕ, suc, ◌<◌, ◌≤◌, refl, sym, ◌∙◌, ap, subst, Bool, true, false, List, [], ◌∷◌, arith}
use Rattle.std.specs.Prelude.{T, ◌&&◌}
use Rattle.std.specs.declared.cmp.Ordering.{Ordering}
use Rattle.std.specs.declared.cmp.Ordering.TheVariants.{Less, Equal, Greater}
use Rattle.std.specs.Cmp.{tied_itself, nat_cmp_total, ranked}
use Rattle.std.specs.Ordering.{eq_by_cmp, is_lt, nat_cmp, ordering_then}
use Rattle.std.specs.FinMap.{FinMap, entries_sorted, retain_keys}
use Rattle.std.specs.FinMap.Entries.{is_sorted, below_all}
use Rattle.oe_rows.specs.Key.{order_cmp, order_line_cmp}
use Rattle.oe_rows.specs.declared.keys.OrderKey.{OrderKey}
use Rattle.oe_rows.specs.declared.keys.OrderLineKey.{OrderLineKey}
use Rattle.oe_rows.proofs.KeyFacts.{order_total, exact_order, order_line_total, exact_order_line}
use Rattle.oe_rows.specs.declared.orders.OrderLine.{OrderLine}
use Rattle.oe_model.specs.Keys.{order_of_line, line_in}
use Rattle.oe_model.specs.Delivery.{lines_of}
use Rattle.oe_model.proofs.MapFacts.{is_same}
use Rattle.oe_model.proofs.EntryFacts.{EachOf, each_of, kept_at}

-- where n lines stand before these, each of these has a number above those before it
abbrev pub Climbs : ℕ → List (OrderLineKey × OrderLine) → Type 0
Climbs n [] = Unit {0}
Climbs n (e ∷ es) = 0 < e.0.number → (n < e.0.number) × Climbs (suc n) es

first_part : (a b : Bool) → T (a && b) → T a
first_part true b p = tt
first_part false b p = p

second_part : (a b : Bool) → T (a && b) → T b
second_part true b p = p
second_part false b p = absurd p

module _ (k : OrderKey) where
  less_number : (i j : ℕ) → T (is_lt (order_line_cmp (line_in k i) (line_in k j))) → i < j
  less_number i j p = by_rank (nat_cmp i j) refl (subst (λ (r : Ordering). T (is_lt r)) same p)
    where
      same : order_line_cmp (line_in k i) (line_in k j) ≡ nat_cmp i j
      same =
          ap (λ (r : Ordering). ordering_then r
          (ordering_then (nat_cmp k.district k.district) (ordering_then (nat_cmp k.order k.order) (nat_cmp i j))))
          (tied_itself nat_cmp_total k.warehouse)
          ∙ ap (λ (r : Ordering). ordering_then r (ordering_then (nat_cmp k.order k.order) (nat_cmp i j)))
          (tied_itself nat_cmp_total k.district)
          ∙ ap (λ (r : Ordering). ordering_then r (nat_cmp i j)) (tied_itself nat_cmp_total k.order)

      by_rank : (r : Ordering) → nat_cmp i j ≡ r → T (is_lt r) → i < j
      by_rank Less e p = ranked i j Less (sym e)
      by_rank Equal e p = absurd p
      by_rank Greater e p = absurd p

  abbrev IsLine : OrderLineKey × OrderLine → Type 0
  IsLine e = e.0 ≡ line_in k e.0.number

  climbs_from : (n p : ℕ) → n ≤ p → (es : List (OrderLineKey × OrderLine)) → EachOf IsLine es
      → T (below_all order_line_cmp (line_in k p) es)
      → T (is_sorted order_line_cmp es) → Climbs n es
  climbs_from n p le [] a b s = tt
  climbs_from n p le (e ∷ es) a b s = λ some.
      let more : p < e.0.number = less_number p e.0.number
      (subst (λ (j : OrderLineKey). T (is_lt (order_line_cmp (line_in k p) j))) a.0 (first_part _ _ b)) in
      let up : n < e.0.number = omega (arith, le, more) in
      let next : suc n ≤ e.0.number = omega (arith, up) in (
        up,
        climbs_from (suc n) e.0.number next es a.1
            (subst (λ (j : OrderLineKey). T (below_all order_line_cmp j es)) a.0 (first_part _ _ s))
            (second_part _ _ s),
      )

  climbs_first : (es : List (OrderLineKey × OrderLine)) → EachOf IsLine es → T (is_sorted order_line_cmp es)
      → Climbs 0 es
  climbs_first [] a s = tt
  climbs_first (e ∷ es) a s = λ some.
      let next : 1 ≤ e.0.number = omega (arith, some) in (
        some,
        climbs_from 1 e.0.number next es a.1
            (subst (λ (j : OrderLineKey). T (below_all order_line_cmp j es)) a.0 (first_part _ _ s))
            (second_part _ _ s),
      )

  -- the lines of an order
  pub lines_climb : (m : FinMap order_line_cmp OrderLine) → Climbs 0 (lines_of k m)
  lines_climb m =
      climbs_first (lines_of k m)
      (each_of _ IsLine (λ e h. ap (λ (j : OrderKey). line_in j e.0.number)
      (is_same order_total exact_order (order_of_line e.0) k h.0)) (lines_of k m)
      (kept_at order_line_total exact_order_line m (λ l. eq_by_cmp order_cmp (order_of_line l) k)))
      (entries_sorted (retain_keys m (λ l. eq_by_cmp order_cmp (order_of_line l) k)))
