-- A HISTORY key by the customer that its number counts, and a NEW-ORDER key by whether its order is delivered.
use Rattle.std.proofs.Common.{◌≡◌, ℕ, ◌+◌, ◌<◌, ◌≤◌, refl, sym, ◌∙◌, ap, Bool, true, false, cond, Some, None, arith}
use Rattle.std.specs.Prelude.{◌&&◌, ◌==◌, not, option_map}
use Rattle.std.specs.Ordering.{eq_by_cmp}
use Rattle.std.proofs.lemmas.Bool.Decides.{nat_tests}
use Rattle.oe_rows.specs.Key.{customer_cmp, history_cmp, new_order_cmp}
use Rattle.oe_rows.specs.declared.scales.Scale.{Scale}
use Rattle.oe_rows.specs.declared.keys.DistrictKey.{DistrictKey}
use Rattle.oe_rows.specs.declared.keys.CustomerKey.{CustomerKey}
use Rattle.oe_rows.specs.declared.keys.HistoryKey.{HistoryKey}
use Rattle.oe_rows.specs.declared.keys.NewOrderKey.{NewOrderKey}
use Rattle.oe_rows.specs.declared.histories.History.{History}
use Rattle.oe_rows.specs.declared.rows.Row.TheVariants as row
use Rattle.oe_rows.proofs.KeyFacts.{customer_total, exact_customer, history_total, exact_history}
use Rattle.oe_model.specs.Keys.{district_of_customer, district_of_new_order, customer_in}
use Rattle.oe_model.specs.Population.{counts_to, has_customer, counted_customer, history_key, is_delivered}
use Rattle.oe_model.specs.Population.{last_delivered}
use Rattle.oe_model.proofs.MapFacts.{is_self, is_same}
use Rattle.oe_model.proofs.PopulationFacts.{population_is_one}
use Rattle.oe_population.specs.Group.{is_district, is_new_order}
use Rattle.oe_population.proofs.KeyTests.{same_customer, same_new_order, second_true}
use Rattle.oe_population.proofs.FillFacts.{same_number}

of_some : (b : Bool) (x y : History) → option_map row.History (cond b (Some x) None) ≡ Some (row.History y) → x ≡ y
of_some true x y e = cc
of_some false x y e = cc

three : (a b c : Bool) → a ≡ true → b ≡ true → c ≡ true → ((a && b) && c) ≡ true
three true true true d e f = refl
three a b c d e f = cc

module _ (s : Scale) (g : DistrictKey) (i : ℕ) (warehouse : 1 ≤ g.warehouse) (low : 1 ≤ g.district)
    (high : g.district ≤ 10) (small : i < s.customers) where
  own : CustomerKey
  own = customer_in g (i + 1)

  -- the scale says by its warehouses alone whether it has the customer
  wide : Scale
  wide = record s { warehouses = g.warehouse }

  has_own : has_customer wide (customer_in g (i + 1)) ≡ true
  unfolding wide
  has_own = three (counts_to g.warehouse g.warehouse) (counts_to 10 g.district) (counts_to s.customers (i + 1))
      (grind (arith, nat_tests)) (grind (arith, nat_tests)) (grind (arith, nat_tests))

  -- the number of its key counts the customer
  pub counted_own : counted_customer s (history_key s (customer_in g (i + 1))).number ≡ customer_in g (i + 1)
  unfolding wide
  counted_own = ap (λ (h : History). h.customer)
      (of_some _ _ _ (population_is_one.has_history wide (customer_in g (i + 1)) has_own))

  pub same_history : (k : HistoryKey)
      → ((is_district g (district_of_customer (counted_customer s k.number)) &&
      ((counted_customer s k.number).customer == i + 1)) && eq_by_cmp history_cmp k (history_key s
      (counted_customer s k.number)))
      ≡ eq_by_cmp history_cmp k (history_key s (customer_in g (i + 1)))
  same_history k =
      ap (λ b. b && eq_by_cmp history_cmp k (history_key s (counted_customer s k.number)))
      (same_customer g (i + 1) (counted_customer s k.number))
      ∙ by_customer (eq_by_cmp customer_cmp (counted_customer s k.number) (customer_in g (i + 1))) refl
    where
      absent : eq_by_cmp customer_cmp (counted_customer s k.number) (customer_in g (i + 1)) ≡ false → (b : Bool)
          → eq_by_cmp history_cmp k (history_key s (customer_in g (i + 1))) ≡ b → false ≡ b
      absent e true h =
          let same : k ≡ history_key s (customer_in g (i + 1)) = is_same history_total exact_history k
          (history_key s (customer_in g (i + 1))) h in
          let counted : counted_customer s k.number ≡ customer_in g (i + 1) =
          ap (λ (q : HistoryKey). counted_customer s q.number) same ∙ counted_own in
          sym e ∙ ap (λ (c : CustomerKey). eq_by_cmp customer_cmp c (customer_in g (i + 1))) counted
          ∙ is_self customer_total exact_customer (customer_in g (i + 1))
      absent e false h = refl

      by_customer : (b : Bool) → eq_by_cmp customer_cmp (counted_customer s k.number) (customer_in g (i + 1)) ≡ b
          → (b && eq_by_cmp history_cmp k (history_key s (counted_customer s k.number))) ≡ eq_by_cmp history_cmp k
          (history_key s (customer_in g (i + 1)))
      by_customer true e = ap (λ (c : CustomerKey). eq_by_cmp history_cmp k (history_key s c))
          (is_same customer_total exact_customer (counted_customer s k.number) (customer_in g (i + 1)) e)
      by_customer false e = absent e (eq_by_cmp history_cmp k (history_key s (customer_in g (i + 1)))) refl

by_first : (a b : Bool) → (a ≡ true → b ≡ true) → (a && b) ≡ a
by_first true b h = h refl
by_first false b h = refl

undelivered : (s : Scale) (o : ℕ) → last_delivered s < o → not (is_delivered s o) ≡ true
undelivered s o h = grind (arith, nat_tests)

-- an order that is not delivered is told by its key alone
pub same_undelivered : (s : Scale) (key k : NewOrderKey) → last_delivered s < key.order
    → is_new_order s key k ≡ eq_by_cmp new_order_cmp k key
same_undelivered s key k late =
    by_first (is_district (district_of_new_order key) (district_of_new_order k) && (k.order == key.order))
    (not (is_delivered s k.order))
    (λ e. ap (λ o. not (is_delivered s o))
    (same_number k.order key.order
    (second_true (is_district (district_of_new_order key) (district_of_new_order k)) (k.order == key.order) e))
    ∙ undelivered s key.order late)
    ∙ same_new_order (district_of_new_order key) key.order k
