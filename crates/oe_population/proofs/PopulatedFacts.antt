-- Tables that were filled by formula have the population of the scale, and meet the schema.
use Rattle.std.proofs.Common.{◌≡◌, ℕ, ◌≤◌, refl, ◌∙◌, ap, subst, Bool, true, false, cond, Some, arith}
use Rattle.std.specs.Prelude.{◌&&◌, IsSome, option_map}
use Rattle.std.specs.Int.{IsInRange}
use Rattle.std.specs.declared.cmp.Ordering.{Ordering}
use Rattle.std.specs.FinMap.{FinMap, empty, get, get-empty}
use Rattle.std.proofs.lemmas.Bool.Decides.{nat_tests}
use Rattle.oe_rows.specs.declared.scales.Scale.{Scale}
use Rattle.oe_rows.specs.declared.keys.Key.{Key}
use Rattle.oe_rows.specs.declared.keys.Key.TheVariants as key
use Rattle.oe_rows.specs.declared.rows.Row.{Row}
use Rattle.oe_rows.specs.declared.rows.Row.TheVariants as row
use Rattle.oe_model.specs.Keys.{warehouse_of_district, district_of_customer, district_of_order, order_of_new_order}
use Rattle.oe_model.specs.Keys.{order_of_line}
use Rattle.oe_model.specs.Rows.{Rows}
use Rattle.oe_model.specs.Population.{IsScale, IsPopulated, formula, where_there, counts_to, lines_of, warehouse_of}
use Rattle.oe_model.specs.Population.{district_of, customer_of, history_of, counted_customer, order_of, line_of}
use Rattle.oe_model.specs.Population.{item_of, stock_of, has_warehouse, has_district, has_customer, has_history}
use Rattle.oe_model.specs.Population.{has_new_order, has_order, has_line, has_item, has_stock}
use Rattle.oe_model.proofs.PopulationFacts.{population_is_one}
use Rattle.oe_population.specs.Fill.{Fills}
use Rattle.oe_population.specs.Group.{no_columns}
use Rattle.oe_store.specs.Places.{IsNumbered, IsSound}
use Rattle.oe_population.proofs.KeyTests.{second_true}

from_empty : {K X : Type 0} (R : K → K → Ordering) (test : K → Bool) (row : K → X) (m : FinMap R X)
    → Fills test row empty m → (k : K) → get m k ≡ where_there (test k) (row k)
from_empty R test row m fills k = fills k ∙ ap (λ o. cond (test k) (Some (row k)) o) (get-empty R k)

-- tables, each of which was filled from empty
pub record IsFilled (s : Scale) (r : Rows) : Type 0 where
  pub warehouses : Fills (has_warehouse s) (λ k. warehouse_of s k.warehouse) empty r.warehouses
  pub districts : Fills (has_district s) (λ k. district_of s k.district) empty r.districts
  pub customers : Fills (has_customer s) (λ k. customer_of k.customer) empty r.customers
  pub histories : Fills (has_history s) (λ k. history_of (counted_customer s k.number)) empty r.histories
  pub new_orders : Fills (has_new_order s) (λ k. no_columns) empty r.new_orders
  pub orders : Fills (has_order s) (λ k. order_of s k.order) empty r.orders
  pub order_lines : Fills (has_line s) (line_of s) empty r.order_lines
  pub items : Fills (has_item s) (λ k. item_of k.item) empty r.items
  pub stocks : Fills (has_stock s) (λ k. stock_of k.warehouse k.item) empty r.stocks

pub populated : (s : Scale) (r : Rows) → IsFilled s r → IsPopulated s r
populated s r f (key.Warehouse k) = ap (option_map row.Warehouse)
    (from_empty _ (has_warehouse s) (λ k. warehouse_of s k.warehouse) r.warehouses f.warehouses k)
populated s r f (key.District k) = ap (option_map row.District)
    (from_empty _ (has_district s) (λ k. district_of s k.district) r.districts f.districts k)
populated s r f (key.Customer k) = ap (option_map row.Customer)
    (from_empty _ (has_customer s) (λ k. customer_of k.customer) r.customers f.customers k)
populated s r f (key.History k) = ap (option_map row.History)
    (from_empty _ (has_history s) (λ k. history_of (counted_customer s k.number)) r.histories f.histories k)
populated s r f (key.NewOrder k) = ap (option_map row.NewOrder)
    (from_empty _ (has_new_order s) (λ k. no_columns) r.new_orders f.new_orders k)
populated s r f (key.Order k) = ap (option_map row.Order)
    (from_empty _ (has_order s) (λ k. order_of s k.order) r.orders f.orders k)
populated s r f (key.OrderLine k) = ap (option_map row.OrderLine)
    (from_empty _ (has_line s) (line_of s) r.order_lines f.order_lines k)
populated s r f (key.Item k) = ap (option_map row.Item)
    (from_empty _ (has_item s) (λ k. item_of k.item) r.items f.items k)
populated s r f (key.Stock k) = ap (option_map row.Stock)
    (from_empty _ (has_stock s) (λ k. stock_of k.warehouse k.item) r.stocks f.stocks k)

first_true : (a b : Bool) → (a && b) ≡ true → a ≡ true
first_true true b e = refl
first_true false b e = e

there : {A : Type 0} (f : A → Row) (b : Bool) (x : A) → IsSome (option_map f (where_there b x)) → b ≡ true
there f true x h = refl
there f false x h = h

counts : (high most n : ℕ) → most ≤ high → counts_to most n ≡ true → IsInRange 1 high n
counts high most n fits e = (grind (arith, nat_tests), grind (arith, nat_tests))

line_count : (o : ℕ) → lines_of o ≤ 15
line_count o = omega arith

-- the rows of a scale in its ranges have keys in their ranges
module _ (s : Scale) (scale : IsScale s) where
  order_fits : (o : ℕ) → counts_to s.customers o ≡ true → IsInRange 1 10_000_000 o
  order_fits o e = let f : s.customers ≤ 10_000_000 = omega (arith, scale.customers.1) in
      counts 10_000_000 s.customers o f e

  numbered : (k : Key) → IsSome (formula s k) → IsNumbered k
  numbered (key.District k) h = counts 10 10 k.district (omega arith)
      (second_true (has_warehouse s (warehouse_of_district k)) (counts_to 10 k.district)
      (there row.District (has_district s k) (district_of s k.district) h))
  numbered (key.Customer k) h = counts 3_000 s.customers k.customer scale.customers.1
      (second_true (has_district s (district_of_customer k)) (counts_to s.customers k.customer)
      (there row.Customer (has_customer s k) (customer_of k.customer) h))
  numbered (key.NewOrder k) h =
      order_fits k.order (second_true (has_district s (district_of_order (order_of_new_order k)))
      (counts_to s.customers k.order)
      (first_true (has_order s (order_of_new_order k)) _ (there row.NewOrder (has_new_order s k) no_columns h)))
  numbered (key.Order k) h = order_fits k.order
      (second_true (has_district s (district_of_order k)) (counts_to s.customers k.order)
      (there row.Order (has_order s k) (order_of s k.order) h))
  numbered (key.OrderLine k) h =
      let t = there row.OrderLine (has_line s k) (line_of s k) h in (
        order_fits k.order (second_true (has_district s (district_of_order (order_of_line k)))
            (counts_to s.customers k.order)
            (first_true (has_order s (order_of_line k)) (counts_to (lines_of k.order) k.number) t)),
        counts 15 (lines_of k.order) k.number (line_count k.order)
            (second_true (has_order s (order_of_line k)) (counts_to (lines_of k.order) k.number) t),
      )
  numbered _ h = tt

  pub sound_filled : (r : Rows) → IsFilled s r → IsSound r
  sound_filled r f = record {
    schema = (population_is_one.is_population s r scale (populated s r f)).meets;
    numbered = λ k h. numbered k (subst IsSome (populated s r f k) h);
  }
