-- Walks whose heads are met together.
use Rattle.std.proofs.Common.{◌≡◌, ◌↔◌, List, [], ◌∷◌, Bool, IsTrue, ap, sym, ◌∙◌}
use Rattle.std.specs.FinMap.{entries, same_entries_map}
use Rattle.oe_model.specs.Rows.{Rows}

head_same : {A : Type 0} (x y : A) (xs ys : List A) → x ∷ xs ≡ y ∷ ys → x ≡ y
head_same x y xs ys e = cc

rest_same : {A : Type 0} (x y : A) (xs ys : List A) → x ∷ xs ≡ y ∷ ys → xs ≡ ys
rest_same x y xs ys e = cc

-- walks that begin with the same are the same where what follows is
pub same_rest : {K R : Type 0} (k j : K) (x y : R) (xs ys : List (K × R)) (P : Type 0) → k ≡ j → x ≡ y
    → (((k, x) ∷ xs ≡ (j, y) ∷ ys) ↔ P) → (xs ≡ ys) ↔ P
same_rest k j x y xs ys P same_key same_row h =
    (λ e. h.0 (λ i. (same_key i, same_row i) ∷ e i), λ p. rest_same (k, x) (j, y) xs ys (h.1 p))

-- and are others where their heads are
pub other_head : {K R : Type 0} (k j : K) (x y : R) (xs ys : List (K × R)) (P : Type 0) → ((k ≡ j) × (x ≡ y) → ⊥)
    → (((k, x) ∷ xs ≡ (j, y) ∷ ys) ↔ P) → P → ⊥
other_head {K = K} {R = R} k j x y xs ys P other h p =
    let e : (k, x) ≡ (j, y) = head_same (k, x) (j, y) xs ys (h.1 p) in
    other (ap (λ (q : K × R). q.0) e, ap (λ (q : K × R). q.1) e)

-- what two walks go over is the same where they are
pub walk_same : {A : Type 0} (xs ys left right : List A) (b : Bool) → xs ≡ left → ys ≡ right → (IsTrue b ↔ (xs ≡ ys))
    → IsTrue b → left ≡ right
walk_same xs ys left right b of_left of_right same holds = sym of_left ∙ (same.0 holds ∙ of_right)

-- tables are the same where the walks over all nine are
pub nine_walks : (r s : Rows) → entries r.warehouses ≡ entries s.warehouses → entries r.districts ≡ entries s.districts
    → entries r.customers ≡ entries s.customers → entries r.histories ≡ entries s.histories
    → entries r.new_orders ≡ entries s.new_orders → entries r.orders ≡ entries s.orders
    → entries r.order_lines ≡ entries s.order_lines → entries r.items ≡ entries s.items
    → entries r.stocks ≡ entries s.stocks → r ≡ s
nine_walks r s a b c d e f g h k = λ i. record {
  warehouses = same_entries_map r.warehouses s.warehouses a i;
  districts = same_entries_map r.districts s.districts b i;
  customers = same_entries_map r.customers s.customers c i;
  histories = same_entries_map r.histories s.histories d i;
  new_orders = same_entries_map r.new_orders s.new_orders e i;
  orders = same_entries_map r.orders s.orders f i;
  order_lines = same_entries_map r.order_lines s.order_lines g i;
  items = same_entries_map r.items s.items h i;
  stocks = same_entries_map r.stocks s.stocks k i;
}
