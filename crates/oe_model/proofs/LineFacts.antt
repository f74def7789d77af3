-- The lines of an order that were filled: their numbers, keys and replies.
use Rattle.std.proofs.Common.{◌≡◌, ℕ, ◌+◌, ◌<◌, refl, ◌∙◌, ap, false, List, [], ◌∷◌, ◌++◌, length, None, inl, inr}
use Rattle.std.proofs.Common.{arith}
use Rattle.std.specs.Prelude.{◌⊎◌}
use Rattle.std.specs.Ordering.{eq_by_cmp}
use Rattle.std.specs.FinMap.{FinMap, get, insert}
use Rattle.oe_rows.specs.Key.{order_line_cmp}
use Rattle.oe_rows.specs.declared.keys.OrderKey.{OrderKey}
use Rattle.oe_rows.specs.declared.keys.OrderLineKey.{OrderLineKey}
use Rattle.oe_rows.specs.declared.orders.OrderLine.{OrderLine}
use Rattle.oe_rows.proofs.KeyFacts.{order_line_total, exact_order_line}
use Rattle.oe_model.specs.Keys.{line_in}
use Rattle.oe_model.specs.Maps.{with_all}
use Rattle.oe_model.specs.Positions.{Filled}
use Rattle.oe_model.specs.NewOrder.{line_entries}
use Rattle.oe_model.proofs.PresenceFacts.{key_cases, get_other}

-- they have the numbers from n + 1 on
abbrev pub AreNumbered : ℕ → List Filled → Type 0
AreNumbered n [] = Unit {0}
AreNumbered n (f ∷ fs) = (f.number ≡ n + 1) × AreNumbered (n + 1) fs

pub length-more : {A : Type 0} (xs : List A) (x : A) → length (xs ++ x ∷ []) ≡ length xs + 1
length-more [] x = refl
length-more (y ∷ xs) x = let h = length-more xs x in omega arith

pub one_more_numbered : (fs : List Filled) (f : Filled) (n : ℕ) → AreNumbered n fs → f.number ≡ n + length fs + 1
    → AreNumbered n (fs ++ f ∷ [])
one_more_numbered [] f n a e = ((let z : f.number ≡ n + 1 = omega arith in z), tt)
one_more_numbered (g ∷ fs) f n a e =
    (a.0, one_more_numbered fs f (n + 1) a.1 (let z : f.number ≡ n + 1 + length fs + 1 = omega arith in z))

-- a line with a later number than those that were put is still absent
pub still_absent : (k : OrderKey) (fs : List Filled) (n : ℕ) (m : FinMap order_line_cmp OrderLine) → AreNumbered n fs
    → (j : ℕ) → n + length fs < j → get m (line_in k j) ≡ None
    → get (with_all (line_entries k fs) m) (line_in k j) ≡ None
still_absent k [] n m a j less e = e
still_absent k (f ∷ fs) n m a j less e =
    still_absent k fs (n + 1) (insert m (line_in k f.number) f.row) a.1 j
    (let z : n + 1 + length fs < j = omega arith in z)
    (by_key (key_cases order_line_total exact_order_line (line_in k j) (line_in k f.number)))
  where
    by_key : (line_in k j ≡ line_in k f.number) ⊎ (eq_by_cmp order_line_cmp (line_in k j) (line_in k f.number) ≡ false)
        → get (insert m (line_in k f.number) f.row) (line_in k j) ≡ None
    by_key (inl s) = let t : j ≡ f.number = ap (λ (i : OrderLineKey). i.number) s in let own : f.number ≡ n + 1 = a.0 in
        absurd (let no : ⊥ = omega arith in no)
    by_key (inr t) = get_other order_line_total exact_order_line m (line_in k f.number) f.row (line_in k j) t ∙ e
