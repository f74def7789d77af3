-- What lines sold, taken off a walk in parts.
use Rattle.std.proofs.Common.{◌≡◌, ℕ, zero, suc, ◌+◌, ◌≤◌, ◌<◌, refl, sym, ap, ◌∙◌, subst, Bool, cond, Option, None}
use Rattle.std.proofs.Common.{Some, List, [], ◌∷◌, ◌++◌, map, length, get_or, arith}
use Rattle.std.specs.Prelude.{◌-◌, ◌*◌, not, ◌&&◌, option_map, take}
use Rattle.std.specs.List.{cons_option}
use Rattle.std.specs.FinMap.{get}
use Rattle.std.proofs.lemmas.List.{map-append}
use Rattle.std.proofs.Math.Seq.{take-suc}
use Rattle.oe_rows.specs.declared.keys.OrderLineKey.{OrderLineKey}
use Rattle.oe_rows.specs.declared.orders.OrderLine.{OrderLine}
use Rattle.oe_rows_of.specs.Columns.{item_of}
use Rattle.oe_rows_of.proofs.ChosenFacts.{rows_at}
use Rattle.oe_enquiry.specs.declared.items.Sold.{Sold}
use Rattle.oe_enquiry.specs.Level.{list_with, is_listed, sold_in, sold_of, AreStanding, HasQuantity, HaveQuantities}
use Rattle.oe_model.specs.Rows.{Rows}

-- a line with its key, as a walk gives it
abbrev pub Entry : Type 0
Entry = OrderLineKey × OrderLine

abbrev item : Sold → ℕ
item s = s.item

module _ (now past : Rows) (w : ℕ) where
  abbrev sold_at : Option OrderLine → List Sold → List Sold
  sold_at x ss = cons_option (option_map (sold_in now w) (item_of x)) ss

  -- their items are those of the lines that stood
  pub items_are : (es : List Entry)
      → map item (sold_of now past w es) ≡ map (λ (e : Entry). e.1.item) (rows_at past.order_lines es)
  items_are [] = refl
  items_are (e ∷ es) = by (get past.order_lines e.0) (items_are es)
    where
      by : (x : Option OrderLine)
          → map item (sold_of now past w es) ≡ map (λ (f : Entry). f.1.item) (rows_at past.order_lines es)
          → map item (sold_at x (sold_of now past w es)) ≡ map (λ (f : Entry). f.1.item)
          (cons_option (option_map (λ y. (e.0, y)) x) (rows_at past.order_lines es))
      by None rest = rest
      by (Some y) rest = ap (λ is. y.item ∷ is) rest

  -- and they have the quantities of their stocks
  pub have_all : (es : List Entry) → HaveQuantities now w (sold_of now past w es)
  have_all [] = tt
  have_all (e ∷ es) = by (get past.order_lines e.0) (have_all es)
    where
      by : (x : Option OrderLine) → HaveQuantities now w (sold_of now past w es)
          → HaveQuantities now w (sold_at x (sold_of now past w es))
      by None rest = rest
      by (Some y) rest = (refl, rest)

  have_first : (xs ys : List Sold) → HaveQuantities now w (xs ++ ys) → HaveQuantities now w xs
  have_first [] ys h = tt
  have_first (x ∷ xs) ys h = (h.0, have_first xs ys h.1)

  -- what is taken off the front of a walk
  pub taken_have : (xs : List Sold) (es es' : List Entry) → xs ++ sold_of now past w es' ≡ sold_of now past w es
      → HaveQuantities now w xs
  taken_have xs es es' is = have_first xs (sold_of now past w es') (subst (HaveQuantities now w) (sym is) (have_all es))

  -- A walk from whose front so many lines were taken: what they sold, and the lines that are left.
  pub record Takes (all : List Entry) (taken : ℕ) (sold : List Sold) (es : List Entry) : Type 0 where
    pub rest : sold ++ sold_of now past w es ≡ sold_of now past w all
    pub standing : AreStanding now es
    pub few : length sold + length es ≤ length all
    pub left : length es + taken ≤ length all
    pub room : length sold ≤ taken

-- items that are listed behind others
listed_behind : (p : ℕ → Bool) (is items js : List ℕ)
    → list_with p items (is ++ js) ≡ list_with p (list_with p items is) js
listed_behind p [] items js = refl
listed_behind p (i ∷ is) items js =
    listed_behind p is (cond (not (is_listed items i) && p i) (items ++ i ∷ []) items) js

suc_is : (n : ℕ) → suc n ≡ n + 1
suc_is n = omega arith

module _ (now past : Rows) (w : ℕ) (p : ℕ → Bool) where
  -- so many of some items are listed, behind those that were
  pub record Picks (old items : List ℕ) (ss : List Sold) (n : ℕ) : Type 0 where
    pub is : items ≡ list_with p old (map item (take n ss))
    pub few : length items ≤ length old + n

  pub nth_has : (n : ℕ) (ss : List Sold) (s : Sold) → n < length ss → s ≡ get_or ss n s
      → HaveQuantities now w ss → HasQuantity now w s
  nth_has n [] s lt at h = absurd (omega (arith, lt))
  nth_has zero (x ∷ ss) s lt at h = subst (HasQuantity now w) (sym at) h.0
  nth_has (suc n) (x ∷ ss) s lt at h = nth_has n ss s (omega (arith, lt)) at h.1

  pub picks_one : (old items items' : List ℕ) (ss : List Sold) (n : ℕ) (s : Sold) → Picks old items ss n
      → n < length ss → s ≡ get_or ss n s → items' ≡ list_with p items (s.item ∷ []) → length items' ≤ length items + 1
      → Picks old items' ss (n + 1)
  picks_one old items items' ss n s h lt at is more = record {
    is = is ∙ ap (λ zs. list_with p zs (s.item ∷ [])) h.is
        ∙ sym (listed_behind p (map item (take n ss)) old (s.item ∷ []))
        ∙ ap (list_with p old) (sym (map-append item (take n ss) (s ∷ []))
        ∙ ap (map item) (ap (λ x. take n ss ++ x ∷ []) at ∙ sym (take-suc ss n s lt)
        ∙ ap (λ (k : ℕ). take k ss) (suc_is n)));
    few = (let few : length items ≤ length old + n = h.few in omega (arith, few, more));
  }

  -- What is left of a walk over the lines leads to all items, and there is room for them; so many parts were taken.
  pub record Lists (all items : List ℕ) (es : List Entry) (parts : ℕ) : Type 0 where
    pub rest : list_with p items (map item (sold_of now past w es)) ≡ all
    pub standing : AreStanding now es
    pub few : length items + length es ≤ 300
    pub left : length es ≤ 304 - 16 * parts

  pub lists_part : (all items items' : List ℕ) (es es' : List Entry) (ss : List Sold) (n : ℕ) → Lists all items es n
      → ss ++ sold_of now past w es' ≡ sold_of now past w es → AreStanding now es' → length ss + length es' ≤ length es
      → length es' ≤ length es - 16 → items' ≡ list_with p items (map item ss) → length items' ≤ length items
      + length ss
      → Lists all items' es' (n + 1)
  lists_part all items items' es es' ss n l is standing taken most listed' more = record {
    rest = ap (λ is. list_with p is (map item (sold_of now past w es'))) listed'
        ∙ sym (listed_behind p (map item ss) items (map item (sold_of now past w es')))
        ∙ ap (list_with p items) (sym (map-append item ss (sold_of now past w es')) ∙ ap (map item) is) ∙ l.rest;
    standing = standing;
    few = (let few : length items + length es ≤ 300 = l.few in omega (arith, few, taken, more));
    left = (let left : length es ≤ 304 - 16 * n = l.left in omega (arith, left, most));
  }

  none : (es : List Entry) → length es ≤ 0 → es ≡ []
  none [] h = refl
  none (e ∷ es) h = absurd (omega (arith, h))

  pub all_listed : (all items : List ℕ) (es : List Entry) (n : ℕ) → Lists all items es n → 19 ≤ n → items ≡ all
  all_listed all items es n l done =
      let left : length es ≤ 304 - 16 * n = l.left in
      sym (ap (λ es. list_with p items (map item (sold_of now past w es))) (none es (omega (arith, left, done))))
      ∙ l.rest
