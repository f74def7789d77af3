-- The lines of an order, in their keys' order, have rising numbers; and those of a moment are at keys of lines that
-- stand.
use Rattle.std.proofs.lemmas.List.{append-nil}
use Rattle.std.proofs.Common.{◌≡◌, ℕ, ◌-◌, ◌<◌, ◌≤◌, Bool, true, Option, None, Some, List, [], ◌∷◌, ◌++◌, map, length}
use Rattle.std.proofs.Common.{append_assoc, length-append, refl, sym, ap, ◌∙◌, subst, arith}
use Rattle.std.specs.Prelude.{T, option_map, IsSome}
use Rattle.std.specs.List.{cons_option}
use Rattle.std.specs.Ordering.{eq_by_cmp, nat_cmp, ordering_then, is_lt}
use Rattle.std.specs.FinMap.{FinMap, get, entries_sorted, retain_keys}
use Rattle.oe_rows.specs.Key.{order_cmp, order_line_cmp}
use Rattle.oe_rows.specs.declared.keys.OrderKey.{OrderKey}
use Rattle.oe_rows.specs.declared.keys.OrderLineKey.{OrderLineKey}
use Rattle.oe_rows.specs.declared.orders.OrderLine.{OrderLine}
use Rattle.oe_rows.proofs.KeyFacts.{order_total, exact_order, order_line_total, exact_order_line}
use Rattle.oe_model.specs.Keys.{order_of_line}
use Rattle.oe_requests.specs.declared.replies.StatusLine.{StatusLine}
use Rattle.oe_model.specs.Delivery.{lines_of}
use Rattle.oe_model.specs.Queries.{status_line}
use Rattle.oe_model.proofs.MapFacts.{is_same}
use Rattle.oe_model.proofs.EntryFacts.{EachOf, each_of, kept_at}
use Rattle.oe_theory.proofs.Sets.{some_inj}
use Rattle.oe_rows_of.proofs.ChosenFacts.{rows_at, kept_is}
use Rattle.oe_rows_of.proofs.ClimbFacts.{Climb, climb, lower, same_number}

line_below : (k : OrderKey) (a b : OrderLineKey) → order_of_line a ≡ k → order_of_line b ≡ k
    → T (is_lt (order_line_cmp a b)) → a.number < b.number
line_below k a b d e l =
    let w : a.warehouse ≡ b.warehouse = ap (λ (g : OrderKey). g.warehouse) (d ∙ sym e) in
    let n : a.district ≡ b.district = ap (λ (g : OrderKey). g.district) (d ∙ sym e) in
    let o : a.order ≡ b.order = ap (λ (g : OrderKey). g.order) (d ∙ sym e) in
    lower a.number b.number (nat_cmp a.number b.number) refl
    (subst T (ap is_lt (λ i. ordering_then (same_number a.warehouse b.warehouse w i)
    (ordering_then (same_number a.district b.district n i)
    (ordering_then (same_number a.order b.order o i) (nat_cmp a.number b.number))))) l)

module _ (k : OrderKey) where
  abbrev is_own : OrderLineKey × OrderLine → Type 0
  is_own e = order_of_line e.0 ≡ k

  abbrev own : OrderLineKey → Bool
  own l = eq_by_cmp order_cmp (order_of_line l) k

  pub lines_climb : (lines : FinMap order_line_cmp OrderLine) → Climb (λ l. l.number) 0 (lines_of k lines)
  lines_climb lines =
      climb order_line_cmp (λ l. l.number) (λ l. order_of_line l ≡ k) (line_below k) (lines_of k lines)
      (entries_sorted (retain_keys lines own))
      (each_of (λ e. (own e.0 ≡ true) × (get lines e.0 ≡ Some e.1)) is_own
      (λ e t. is_same order_total exact_order (order_of_line e.0) k t.0) (lines_of k lines)
      (kept_at order_line_total exact_order_line lines own))

-- the lines of an order then are those at the keys of the lines that stand
pub lines_are : (now past : FinMap order_line_cmp OrderLine) (k : OrderKey)
    → ((q : OrderLineKey) → IsSome (get past q) → IsSome (get now q)) → rows_at past (lines_of k now) ≡ lines_of k past
lines_are now past k has = sym (kept_is past order_line_total exact_order_line now (own k) has)

-- each line of an order stands at its key
pub lines_stand : (now : FinMap order_line_cmp OrderLine) (k : OrderKey)
    → EachOf (λ e. get now e.0 ≡ Some e.1) (lines_of k now)
lines_stand now k =
    each_of (λ e. (own k e.0 ≡ true) × (get now e.0 ≡ Some e.1)) (λ e. get now e.0 ≡ Some e.1) (λ e t. t.1)
    (lines_of k now) (kept_at order_line_total exact_order_line now (own k))

-- what is told of lines with their keys
abbrev status_lines : List (OrderLineKey × OrderLine) → List StatusLine
status_lines es = map (λ e. status_line e.1) es

module _ (now past : FinMap order_line_cmp OrderLine) (k : OrderKey) where
  -- what is left of a walk over the lines that stand leads from those told so far to all, and their numbers leave room
  pub record Fills (lines : List StatusLine) (es : List (OrderLineKey × OrderLine)) : Type 0 where
    pub rest : lines ++ status_lines (rows_at past es) ≡ status_lines (lines_of k past)
    pub stand : EachOf (λ e. get now e.0 ≡ Some e.1) es
    pub bound : ℕ
    pub few : length lines ≤ bound
    pub climb : Climb (λ (l : OrderLineKey). l.number) bound es

  pub starts : ((q : OrderLineKey) → IsSome (get past q) → IsSome (get now q)) → Fills [] (lines_of k now)
  starts has = record {
    rest = ap status_lines (lines_are now past k has);
    stand = lines_stand now k;
    bound = 0;
    few = omega arith;
    climb = lines_climb k now;
  }

  -- there is room for a line, since its number is at most 15
  pub has_room : (lines : List StatusLine) (e : OrderLineKey × OrderLine) (es : List (OrderLineKey × OrderLine))
      → Fills lines (e ∷ es)
      → 1 ≤ e.0.number → e.0.number ≤ 15 → length lines < 15
  has_room lines e es f low high =
      let few : length lines ≤ f.bound = f.few in
      let next : f.bound ≤ e.0.number - 1 = f.climb.0 in
      omega (arith, few, next, low, high)

  -- the row that a walk lends stands at its key
  pub stands_at : (lines : List StatusLine) (e : OrderLineKey × OrderLine) (es : List (OrderLineKey × OrderLine))
      → Fills lines (e ∷ es) → get now e.0 ≡ Some e.1
  stands_at lines e es f = f.stand.0

  one_more : (lines : List StatusLine) (k : OrderLineKey) (rest : List (OrderLineKey × OrderLine)) (l : StatusLine)
      (v : Option OrderLine) → option_map status_line v ≡ Some l
      → (lines ++ l ∷ []) ++ status_lines rest ≡ lines ++ status_lines (cons_option (option_map (λ x. (k, x)) v) rest)
  one_more lines k rest l None e = let no : ⊥ = cc in absurd no
  one_more lines k rest l (Some x) e =
      let same : status_line x ≡ l = some_inj (status_line x) l e in
      append_assoc lines (l ∷ []) (status_lines rest) ∙ ap (λ z. lines ++ z ∷ status_lines rest) (sym same)

  pub takes : (lines : List StatusLine) (e : OrderLineKey × OrderLine) (es : List (OrderLineKey × OrderLine))
      (l : StatusLine) → Fills lines (e ∷ es) → option_map status_line (get past e.0) ≡ Some l
      → 1 ≤ e.0.number → Fills (lines ++ l ∷ []) es
  takes lines e es l f at low = record {
    rest = one_more lines e.0 (rows_at past es) l (get past e.0) at ∙ f.rest;
    stand = f.stand.1;
    bound = e.0.number;
    few = (let few : length lines ≤ f.bound = f.few in let next : f.bound ≤ e.0.number - 1 = f.climb.0 in
        omega (arith, few, next, low, length-append lines (l ∷ [])));
    climb = f.climb.1;
  }

  pub ends : (lines : List StatusLine) (es : List (OrderLineKey × OrderLine)) → es ≡ [] → Fills lines es
      → lines ≡ status_lines (lines_of k past)
  ends lines es e f = sym (append-nil lines) ∙ sym (ap (λ xs. lines ++ status_lines (rows_at past xs)) e) ∙ f.rest
