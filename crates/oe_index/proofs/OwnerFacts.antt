-- Among the rows of a list are all orders of a customer.
use Rattle.std.proofs.Common.{◌≡◌, refl, sym, ◌∙◌, ap, subst, Bool, true, false, cond, ℕ, List, [], ◌∷◌, get_or, Option}
use Rattle.std.proofs.Common.{Some, None, Result, Ok, Err, rules}
use Rattle.std.specs.Result.{OnErr}
use Rattle.std.specs.Prelude.{filter, ◌==◌, is_some, not}
use Rattle.std.specs.Option.{unwrap_or}
use Rattle.std.specs.List.{filter_map, cons_option}
use Rattle.std.specs.Ordering.{eq_by_cmp}
use Rattle.std.specs.FinMap.{FinMap, get, entries}
use Rattle.oe_rows.specs.Key.{customer_cmp, order_cmp}
use Rattle.oe_rows.specs.declared.keys.CustomerKey.{CustomerKey}
use Rattle.oe_rows.specs.declared.keys.OrderKey.{OrderKey}
use Rattle.oe_rows.proofs.KeyFacts.{customer_total, exact_customer, order_total, exact_order}
use Rattle.oe_rows.specs.declared.orders.Order.{Order}
use Rattle.oe_table.specs.Table.{place, rows_of, IsBlanked}
use Rattle.oe_table.specs.Shelf.{IsAscending}
use Rattle.oe_table.proofs.TableFacts.{row_in, get-rows_of}
use Rattle.oe_model.specs.Keys.{customer_of_order, customer_in, district_of_order}
use Rattle.oe_model.specs.Queries.{orders_of}
use Rattle.oe_model.proofs.MapFacts.{is_same}
use Rattle.oe_index.specs.Listed.{Keys, rows_at_keys, IsListed, AreListed}
use Rattle.oe_index.specs.Numbers.{owner_number, list_of_owner}
use Rattle.oe_index.specs.Own.{own_of, is_owner}
use Rattle.oe_index.proofs.FoundFacts.{never, all-found}

-- what passes a test, as what a function gives
by-map : {A : Type 0} (p : A → Bool) (xs : List A) → filter p xs ≡ filter_map (λ x. cond (p x) (Some x) None) xs
by-map p [] = refl
by-map p (x ∷ xs) = by (p x) (by-map p xs)
  where
    by : (b : Bool) → filter p xs ≡ filter_map (λ x. cond (p x) (Some x) None) xs
        → cond b (x ∷ filter p xs) (filter p xs) ≡ cons_option (cond b (Some x) None)
        (filter_map (λ x. cond (p x) (Some x) None) xs)
    by true e = ap (λ ys. x ∷ ys) e
    by false e = e

module _ (c : CustomerKey) where
  abbrev is_own : OrderKey × Order → Bool
  is_own e = eq_by_cmp customer_cmp (customer_of_order e.0 e.1) c

  not-own : (e : OrderKey × Order) (b : Bool) → is_own e ≡ b → (b ≡ true → ⊥)
      → cond {A = Option (OrderKey × Order)} b (Some e) None ≡ None
  not-own e true t out = absurd (out refl)
  not-own e false t out = refl

  pub all-own : (m : FinMap order_cmp Order) (ls : List (Keys OrderKey)) (es : Keys OrderKey)
      → AreListed order_cmp list_of_owner true ls m → es ≡ get_or ls (owner_number c) []
      → IsAscending order_cmp es → own_of c (rows_at_keys order_cmp m es) ≡ orders_of c m
  all-own m ls es listed is up =
      by-map is_own (rows_at_keys order_cmp m es)
      ∙ all-found order_total exact_order list_of_owner (λ e. cond (is_own e) (Some e) None) (owner_number c) m ls es
      listed is up (λ k x other.
      not-own (k, x) (is_own (k, x)) refl
      (λ t. other (ap owner_number (is_same customer_total exact_customer (customer_of_order k x) c t))))
      ∙ sym (by-map is_own (entries m))

eq_nat : (a b : ℕ) → (a == b) ≡ true → a ≡ b
eq_nat a b t = search rules

-- an order of that customer is listed under it
pub listed-owner : (ls : List (Keys OrderKey)) (m : FinMap order_cmp Order) (key : OrderKey) (row : Order) (b : Bool)
    → b ≡ is_owner row.customer (get m key)
    → AreListed order_cmp list_of_owner true ls m → b ≡ true → IsListed order_cmp ls (list_of_owner key row) key
listed-owner ls m key row b is h on = by (get m key) refl (sym is ∙ on)
  where
    by : (o : Option Order) → get m key ≡ o → is_owner row.customer o ≡ true
        → IsListed order_cmp ls (list_of_owner key row) key
    by None at t = never (sym t)
    by (Some x) at t = subst (λ n. IsListed order_cmp ls (owner_number (customer_in (district_of_order key) n)) key)
        (eq_nat x.customer row.customer t) (h refl key x at)

-- and so is one whose O_C_ID is not put back
pub listed-same_owner : (customer : Option ℕ) (ls : List (Keys OrderKey)) (m : FinMap order_cmp Order) (key : OrderKey)
    (x : Order) (b : Bool) → is_some customer ≡ not b → get m key ≡ Some x
    → AreListed order_cmp list_of_owner true ls m → b ≡ true
    → IsListed order_cmp ls (owner_number (customer_in (district_of_order key) (unwrap_or customer x.customer))) key
listed-same_owner None ls m key x b is at h on = h refl key x at
listed-same_owner (Some n) ls m key x b is at h on = never (is ∙ ap not on)

-- a key that has no row and was not blanked has no place
pub no-place : (t : List (OrderKey × Option Order)) (key : OrderKey) → get (rows_of order_cmp t) key ≡ None
    → (IsBlanked order_cmp t key → ⊥) → place order_cmp t key ≡ None
no-place t key none off = by (place order_cmp t key) refl
  where
    by : (p : Option (Option Order)) → place order_cmp t key ≡ p → p ≡ None
    by None at = refl
    by (Some None) at = absurd (off at)
    by (Some (Some x)) at =
        let there : get (rows_of order_cmp t) key ≡ Some x = get-rows_of order_total t key ∙ ap row_in at in
        let clash : None ≡ Some x = sym none ∙ there in cc

-- where a key had no place, it was not blanked
pub kept-place : {A E : Type 0} (r : Result A E) (P : Type 0) (t : List (OrderKey × Option Order)) (key : OrderKey)
    → OnErr r (place order_cmp t key ≡ None) → ((IsBlanked order_cmp t key → ⊥) → P) → OnErr r P
kept-place (Ok x) P t key none same = none
kept-place (Err x) P t key none same = same (λ b. let no : None ≡ Some None = sym none ∙ b in let clash : ⊥ = cc in
    clash)
