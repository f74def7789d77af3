-- An order's lines are all from home exactly where none of them counts as remote.
use Rattle.std.proofs.Common.{◌≡◌, ℕ, refl, sym, ◌∙◌, ap, Bool, true, false, cond, List, [], ◌∷◌, Some, inl, inr}
use Rattle.std.proofs.Common.{arith}
use Rattle.std.specs.Prelude.{◌⊎◌, ◌↔◌, ◌==◌}
use Rattle.std.specs.Ordering.{eq_by_cmp}
use Rattle.std.specs.FinMap.{get, entries}
use Rattle.std.proofs.lemmas.Bool.{eqb-true, eq-eqb}
use Rattle.oe_rows.specs.Key.{order_cmp}
use Rattle.oe_rows.specs.declared.keys.OrderKey.{OrderKey}
use Rattle.oe_rows.specs.declared.keys.OrderLineKey.{OrderLineKey}
use Rattle.oe_rows.specs.declared.orders.Order.{Order}
use Rattle.oe_rows.specs.declared.orders.OrderLine.{OrderLine}
use Rattle.oe_rows.proofs.KeyFacts.{order_total, exact_order, order_line_total, exact_order_line}
use Rattle.oe_model.specs.Keys.{order_of_line}
use Rattle.oe_model.specs.Lists.{IsAmong}
use Rattle.oe_model.specs.Rows.{Rows}
use Rattle.oe_model.specs.Maps.{sum_of}
use Rattle.oe_model.specs.FurtherConditions.{if_of_order}
use Rattle.oe_model.proofs.MapFacts.{is_self}
use Rattle.oe_model.proofs.EntryFacts.{row_among}
use Rattle.oe_model.proofs.SumFacts.{sum_in, sum-cons, sum-none}
use Rattle.oe_model.proofs.PresenceFacts.{key_cases}
use Rattle.oe_movements.specs.Movements.{one_remote, AreHome, All_local}

-- equivalences one after another
pub both_ways : {A B C : Type 0} → A ↔ B → B ↔ C → A ↔ C
both_ways f g = (λ a. g.0 (f.0 a), λ c. f.1 (g.1 c))

-- each line of an order counts nothing where their sum is 0, and the other way round
module _ (r : Rows) (k : OrderKey) (counts : OrderLineKey → OrderLine → ℕ) where
  abbrev pub sum_of_order : ℕ
  sum_of_order = sum_of (λ l y. if_of_order k (order_of_line l) (counts l y)) r.order_lines

  abbrev in_order : OrderLineKey → OrderLine → ℕ
  in_order l y = if_of_order k (order_of_line l) (counts l y)

  along : (es : List (OrderLineKey × OrderLine)) → sum_in in_order es ≡ 0 → (e : OrderLineKey × OrderLine)
      → IsAmong e es → in_order e.0 e.1 ≡ 0
  along [] h e a = absurd a
  along (d ∷ es) h e (inl s) =
      let sum = sum-cons in_order d es in
      let none : in_order d.0 d.1 ≡ 0 = omega arith in
      ap (λ (c : OrderLineKey × OrderLine). in_order c.0 c.1) (sym s) ∙ none
  along (d ∷ es) h e (inr a) =
      let sum = sum-cons in_order d es in
      along es (let z : sum_in in_order es ≡ 0 = omega arith in z) e a

  always : (b : Bool) → ◌≡◌ {A = ℕ} (cond b 0 0) 0
  always true = refl
  always false = refl

  of_line : (l : OrderLineKey) (y : OrderLine) → (order_of_line l ≡ k → counts l y ≡ 0)
      → (order_of_line l ≡ k) ⊎ (eq_by_cmp order_cmp (order_of_line l) k ≡ false) → in_order l y ≡ 0
  of_line l y h (inl s) = ap (if_of_order k (order_of_line l)) (h s)
      ∙ always (eq_by_cmp order_cmp (order_of_line l) k)
  of_line l y h (inr t) = ap (λ b. cond b (counts l y) 0) t

  pub none_counts : (sum_of_order ≡ 0) ↔ ((l : OrderLineKey) (y : OrderLine) → get r.order_lines l ≡ Some y
      → order_of_line l ≡ k → counts l y ≡ 0)
  none_counts = (
    λ e l y at s.
        sym (ap (λ b. cond b (counts l y) 0)
        (ap (λ (i : OrderKey). eq_by_cmp order_cmp i k) s ∙ is_self order_total exact_order k))
        ∙ along (entries r.order_lines) e (l, y) (row_among order_line_total exact_order_line r.order_lines l y at),
    λ h. sum-none order_line_total exact_order_line in_order r.order_lines
        (λ l y at. of_line l y (h l y at) (key_cases order_total exact_order (order_of_line l) k)),
  )

-- the number of an order's lines that another warehouse supplied
abbrev pub remotes_of : Rows → OrderKey → ℕ
remotes_of r k = sum_of_order r k one_remote

pub home_tied : (r : Rows) (k : OrderKey) → (remotes_of r k ≡ 0) ↔ AreHome r k
home_tied r k = both_ways (none_counts r k one_remote) (
  λ h l y at s. of_none l y (h l y at s) ∙ ap (λ (i : OrderKey). i.warehouse) s,
  λ h l y at s. to_none l y (h l y at s ∙ sym (ap (λ (i : OrderKey). i.warehouse) s)),
)
  where
    by_test : (l : OrderLineKey) (y : OrderLine) (b : Bool) → (y.supply == l.warehouse) ≡ b
        → ◌≡◌ {A = ℕ} (cond b 0 1) 0 → y.supply ≡ l.warehouse
    by_test l y true t e = eqb-true y.supply l.warehouse t
    by_test l y false t e = let no : ⊥ = omega arith in absurd no

    of_none : (l : OrderLineKey) (y : OrderLine) → one_remote l y ≡ 0 → y.supply ≡ l.warehouse
    of_none l y e = by_test l y (y.supply == l.warehouse) refl e

    to_none : (l : OrderLineKey) (y : OrderLine) → y.supply ≡ l.warehouse → one_remote l y ≡ 0
    to_none l y e = ap (λ b. cond b 0 1) (eq-eqb y.supply l.warehouse e)

-- O_ALL_LOCAL is 1 exactly where this number is 0
abbrev pub IsCounted : Rows → Type 0
IsCounted r = (k : OrderKey) (x : Order) → get r.orders k ≡ Some x → (x.all_local ≡ true) ↔ (remotes_of r k ≡ 0)

pub to_counted : (r : Rows) → All_local r → IsCounted r
to_counted r h k x e = both_ways (h k x e) ((home_tied r k).1, (home_tied r k).0)

pub from_counted : (r : Rows) → IsCounted r → All_local r
from_counted r h k x e = both_ways (h k x e) (home_tied r k)
