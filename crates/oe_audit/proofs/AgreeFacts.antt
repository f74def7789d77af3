-- An account agrees with capped sums exactly where it agrees with what they stand for.
use Rattle.std.proofs.Common.{◌≡◌, ℕ, ◌≤◌, min, refl, sym, ◌∙◌, ap, subst, Bool, true, false, List, [], ◌∷◌, Option}
use Rattle.std.proofs.Common.{Some, None, option_map, find, not, cond, arith, ℤ, pos, ◌+ℤ◌, ◌-ℤ◌}
use Rattle.std.specs.Prelude.{◌≤ℤ◌}
use Rattle.std.specs.Ordering.{int_eq}
use Rattle.std.specs.List.{cons_option}
use Rattle.std.specs.FinMap.{FinMap}
use Rattle.std.proofs.lemmas.Int.{ints}
use Rattle.std.proofs.lemmas.Bool.Decides.{Decides-int_eq}
use Rattle.oe_rows.specs.Key.{customer_cmp}
use Rattle.oe_rows.specs.declared.keys.CustomerKey.{CustomerKey}
use Rattle.oe_rows.specs.declared.keys.DistrictKey.{DistrictKey}
use Rattle.oe_rows.specs.declared.customers.Account.{Account}
use Rattle.oe_rows.specs.declared.customers.Customer.{Customer}
use Rattle.oe_model.specs.Keys.{district_of_customer}
use Rattle.oe_model.specs.Rows.{Rows}
use Rattle.oe_model.specs.FurtherConditions.{delivered_for, paid_by}
use Rattle.oe_rows_of.specs.Then.{row_then}
use Rattle.oe_audit.specs.Walks.{entries_then}
use Rattle.oe_audit.specs.Ledgers.{most, sum_for, agrees, passes_customer, passes_then, IsAccount, IsLedger}
use Rattle.oe_audit.specs.declared.customers.CustomerCondition.{CustomerCondition}
use Rattle.oe_audit.specs.declared.customers.CustomerCondition.TheVariants as of_customers
use Rattle.oe_audit.specs.declared.ledgers.Ledger.{Ledger}

-- two tests that hold together
same_tests : (a b c d : ℤ) → (a ≡ b → c ≡ d) → (c ≡ d → a ≡ b) → int_eq a b ≡ int_eq c d
same_tests a b c d there back = by_test (int_eq a b) (int_eq c d) refl refl
  where
    by_test : (s t : Bool) → int_eq a b ≡ s → int_eq c d ≡ t → s ≡ t
    by_test true true e f = refl
    by_test true false e f =
        let z : true ≡ false = sym ((Decides-int_eq c d).1 (there ((Decides-int_eq a b).0 e))) ∙ f in z
    by_test false true e f = let z : false ≡ true = sym e ∙ (Decides-int_eq a b).1 (back ((Decides-int_eq c d).0 f)) in
        z
    by_test false false e f = refl

tenth_same : (b : ℤ) (delivered paid : ℕ) → b ≤ℤ pos 999_999_999_999 → paid ≤ 1_000_000_000_000_000_000
    → int_eq (b +ℤ pos paid) (pos (min delivered most)) ≡ int_eq b (pos delivered -ℤ pos paid)
tenth_same b delivered paid high few =
    same_tests (b +ℤ pos paid) (pos (min delivered most)) b (pos delivered -ℤ pos paid)
    (λ e. let z : b ≡ pos delivered -ℤ pos paid = omega (arith, ints) in z)
    (λ e. let z : b +ℤ pos paid ≡ pos (min delivered most) = omega (arith, ints) in z)

twelfth_same : (b : ℤ) (ytd delivered : ℕ) → b ≤ℤ pos 999_999_999_999 → ytd ≤ 999_999_999_999
    → int_eq (b +ℤ pos ytd) (pos (min delivered most)) ≡ int_eq (b +ℤ pos ytd) (pos delivered)
twelfth_same b ytd delivered high few =
    same_tests (b +ℤ pos ytd) (pos (min delivered most)) (b +ℤ pos ytd) (pos delivered)
    (λ e. let z : b +ℤ pos ytd ≡ pos delivered = omega (arith, ints) in z)
    (λ e. let z : b +ℤ pos ytd ≡ pos (min delivered most) = omega (arith, ints) in z)

pub agrees_is : (n : CustomerCondition) (r : Rows) (l : Ledger) (k : CustomerKey) (x : Customer) → IsLedger r l
    → l.district ≡ Some (district_of_customer k) → IsAccount x.account → 1 ≤ k.customer → k.customer ≤ 3_000
    → agrees n x.account (sum_for l.delivered k.customer) (sum_for l.paid k.customer) ≡ passes_customer n r k x
agrees_is of_customers.Tenth r l k x is of_it a low high =
    let d = is.delivered (district_of_customer k) of_it k.customer low high in
    let p = is.paid (district_of_customer k) of_it k.customer low high in
    (λ i. int_eq (x.account.balance +ℤ pos (p.0 i)) (pos (d i)))
    ∙ tenth_same x.account.balance (delivered_for r k) (paid_by r k) a.balance
    (let m = p.0 in let n = p.1 in omega arith)
agrees_is of_customers.Twelfth r l k x is of_it a low high =
    let d = is.delivered (district_of_customer k) of_it k.customer low high in
    (λ i. int_eq (x.account.balance +ℤ pos x.account.ytd_payment) (pos (d i)))
    ∙ twelfth_same x.account.balance x.account.ytd_payment (delivered_for r k) a.balance a.ytd_payment

-- the row that a key had then, where its account is there
pub then_is : (n : CustomerCondition) (r : Rows) (l : Ledger) (k : CustomerKey) (v : Option Customer) (a : Account)
    (h : DistrictKey) (b : Bool) → option_map (λ (x : Customer). x.account) v ≡ Some a → IsLedger r l
    → l.district ≡ Some h → h ≡ district_of_customer k
    → b ≡ agrees n a (sum_for l.delivered k.customer) (sum_for l.paid k.customer) → IsAccount a → 1 ≤ k.customer
    → k.customer ≤ 3_000 → b ≡ passes_then n r k v
then_is n r l k None a h b e is of_it own t range low high = let no : ⊥ = cc in absurd no
then_is n r l k (Some x) a h b e is of_it own t range low high =
    let same : x.account ≡ a = cc in
    t ∙ ap (λ (y : Account). agrees n y (sum_for l.delivered k.customer) (sum_for l.paid k.customer)) (sym same)
    ∙ agrees_is n r l k x is (of_it ∙ ap Some own) (subst IsAccount (sym same) range) low high

-- the first customer who failed, among those who stood or among those who stand
module _ (n : CustomerCondition) (r : Rows) (w : Bool) (m : FinMap customer_cmp Customer) where
  pub first_stood : (es : List (CustomerKey × Customer))
      → option_map (λ e. e.0) (find (λ e. not (passes_customer n r e.0 e.1)) (entries_then w m es))
      ≡ option_map (λ e. e.0)
      (find (λ e. not (passes_then n r e.0 (row_then w m e.0 e.1))) es)
  first_stood [] = refl
  first_stood (e ∷ es) = go (row_then w m e.0 e.1) refl (first_stood es)
    where
      with_first : Option Customer → List (CustomerKey × Customer)
      with_first v = cons_option (option_map (λ y. (e.0, y)) v) (entries_then w m es)

      by_test : (b : Bool) (y : Customer)
          → option_map (λ e. e.0) (find (λ e. not (passes_customer n r e.0 e.1)) (entries_then w m es))
          ≡ option_map (λ e. e.0)
          (find (λ e. not (passes_then n r e.0 (row_then w m e.0 e.1))) es)
          → option_map (λ (e : CustomerKey × Customer). e.0)
          (cond (not b) (Some (e.0, y)) (find (λ e. not (passes_customer n r e.0 e.1)) (entries_then w m es)))
          ≡ option_map (λ (e : CustomerKey × Customer). e.0)
          (cond (not b) (Some e) (find (λ e. not (passes_then n r e.0 (row_then w m e.0 e.1))) es))
      by_test true y rest = rest
      by_test false y rest = refl

      go : (v : Option Customer) → row_then w m e.0 e.1 ≡ v
          → option_map (λ e. e.0) (find (λ e. not (passes_customer n r e.0 e.1)) (entries_then w m es))
          ≡ option_map (λ e. e.0)
          (find (λ e. not (passes_then n r e.0 (row_then w m e.0 e.1))) es)
          → option_map (λ e. e.0) (find (λ e. not (passes_customer n r e.0 e.1)) (entries_then w m (e ∷ es)))
          ≡ option_map
          (λ e. e.0) (find (λ e. not (passes_then n r e.0 (row_then w m e.0 e.1))) (e ∷ es))
      go None t rest =
          ap (λ v. option_map (λ (d : CustomerKey × Customer). d.0)
          (find (λ d. not (passes_customer n r d.0 d.1)) (with_first v))) t ∙ rest
          ∙ sym (ap (λ v. option_map (λ (d : CustomerKey × Customer). d.0)
          (cond (not (passes_then n r e.0 v)) (Some e)
          (find (λ d. not (passes_then n r d.0 (row_then w m d.0 d.1))) es))) t)
      go (Some y) t rest =
          ap (λ v. option_map (λ (d : CustomerKey × Customer). d.0)
          (find (λ d. not (passes_customer n r d.0 d.1)) (with_first v))) t
          ∙ by_test (passes_customer n r e.0 y) y rest
          ∙ sym (ap (λ v. option_map (λ (d : CustomerKey × Customer). d.0)
          (cond (not (passes_then n r e.0 v)) (Some e)
          (find (λ d. not (passes_then n r d.0 (row_then w m d.0 d.1))) es))) t)
