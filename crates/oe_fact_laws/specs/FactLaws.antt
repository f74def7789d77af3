-- On the facts of any rows, in any order, an audit's check finds nothing exactly where the model's condition holds.
use Rattle.std.specs.Prelude.{◌≡◌, ◌↔◌, ℕ, ◌≤◌, nat_eq, pos, List, [], Option, None, Some, IsSome}
use Rattle.std.specs.List.{All}
use Rattle.std.specs.Ordering.{nat_cmp}
use Rattle.std.specs.FinMap.{get}
use Rattle.oe_rows.specs.declared.keys.DistrictKey.{DistrictKey}
use Rattle.oe_rows.specs.declared.districts.District.{District}
use Rattle.oe_model.specs.Rows.{Rows}
use Rattle.oe_model.specs.Keys.{warehouse_of_district}
use Rattle.oe_model.specs.Meets.{Meets}
use Rattle.oe_model.specs.Conditions as model
use Rattle.oe_model.specs.FurtherConditions as further
use Rattle.oe_movements.specs.Movements as movements
use Rattle.oe_tally.specs.Walks.{AreAll}
use Rattle.oe_facts.specs.declared.keys.DistrictId.{DistrictId}
use Rattle.oe_facts.specs.declared.keys.CustomerId.{CustomerId}
use Rattle.oe_facts.specs.declared.keys.OrderId.{OrderId}
use Rattle.oe_facts.specs.declared.keys.StockId.{StockId}
use Rattle.oe_facts.specs.declared.facts.OrderFact.{OrderFact}
use Rattle.oe_ledgers.specs.Keys.{district_cmp, customer_cmp, order_cmp, stock_cmp, same_district, same_customer}
use Rattle.oe_ledgers.specs.Keys.{same_order, same_stock}
use Rattle.oe_ledgers.specs.Figures.{greatest_order, order_rows}
use Rattle.oe_checks.specs.declared.figures.Apart.{Apart}
use Rattle.oe_checks.specs.Conditions as checks
use Rattle.oe_checks.specs.Accounts as accounts
use Rattle.oe_checks.specs.Movements as moved
use Rattle.oe_checks.specs.Keys as keys
use Rattle.oe_checks.specs.References as references
use Rattle.oe_checks.specs.Sizes.{stock_apart}
use Rattle.oe_checks.specs.Schema.{orders_without_gap}
use Rattle.oe_fact_laws.specs.Facts.{Facts, AreFactsOf}

-- a check finds no key
abbrev pub FindsNothing : {K : Type 0} → (K → Option Apart) → Type 0
FindsNothing check = (k : _) → check k ≡ None

-- a D_NEXT_O_ID is at least 1, as each in its column's range is
abbrev pub AreNumbersToGive : Rows → Type 0
AreNumbersToGive r = (h : DistrictKey) (x : District) → get r.districts h ≡ Some x → 1 ≤ x.next_order

-- conditions 1 to 10 and 12 (clauses 3.3.2.1 to 3.3.2.10 and 3.3.2.12)
pub record Conditions_are_checked : Type 0 where
  pub condition_1 : (f : Facts) (r : Rows) → AreFactsOf f r
      → FindsNothing (checks.condition_1 f.warehouses f.districts) ↔ model.Condition_1 r
  -- in two halves; of a district without an order the check allows D_NEXT_O_ID to be 0, the condition no number
  pub condition_2 : (f : Facts) (r : Rows) → AreFactsOf f r
      → (FindsNothing (checks.condition_2_of_orders f.districts f.orders)
      × FindsNothing (checks.condition_2_of_new_orders f.districts f.new_orders) × AreNumbersToGive r)
      ↔ model.Condition_2 r
  -- where each NEW-ORDER row has its district; without that the check asks more than the condition
  pub condition_3 : (f : Facts) (r : Rows) → AreFactsOf f r → Meets r
      → FindsNothing (checks.condition_3 f.new_orders) ↔ model.Condition_3 r
  -- where each order and line has its district, likewise
  pub condition_4 : (f : Facts) (r : Rows) → AreFactsOf f r → Meets r
      → FindsNothing (checks.condition_4 f.orders f.order_lines) ↔ model.Condition_4 r
  pub condition_5 : (f : Facts) (r : Rows) → AreFactsOf f r
      → FindsNothing (checks.condition_5 f.orders f.new_orders) ↔ further.Condition_5 r
  pub condition_6 : (f : Facts) (r : Rows) → AreFactsOf f r
      → FindsNothing (checks.condition_6 f.orders f.order_lines) ↔ further.Condition_6 r
  pub condition_7 : (f : Facts) (r : Rows) → AreFactsOf f r
      → FindsNothing (checks.condition_7 f.orders f.order_lines) ↔ further.Condition_7 r
  pub condition_8 : (f : Facts) (r : Rows) → AreFactsOf f r
      → FindsNothing (checks.condition_8 f.warehouses f.histories) ↔ further.Condition_8 r
  pub condition_9 : (f : Facts) (r : Rows) → AreFactsOf f r
      → FindsNothing (checks.condition_9 f.districts f.histories) ↔ further.Condition_9 r
  pub condition_10 : (f : Facts) (r : Rows) → AreFactsOf f r
      → FindsNothing (accounts.condition_10 f.customers f.orders f.order_lines f.histories) ↔ further.Condition_10 r
  pub condition_12 : (f : Facts) (r : Rows) → AreFactsOf f r
      → FindsNothing (accounts.condition_12 f.customers f.orders f.order_lines) ↔ further.Condition_12 r

-- the seven movements
pub record Movements_are_checked : Type 0 where
  pub stock_ytd : (initial : ℕ) (f : Facts) (r : Rows) → AreFactsOf f r
      → FindsNothing (moved.stock_ytd initial f.stocks f.order_lines) ↔ movements.Stock_ytd initial r
  pub stock_orders : (initial : ℕ) (f : Facts) (r : Rows) → AreFactsOf f r
      → FindsNothing (moved.stock_orders initial f.stocks f.order_lines) ↔ movements.Stock_orders initial r
  pub stock_remote : (initial : ℕ) (f : Facts) (r : Rows) → AreFactsOf f r
      → FindsNothing (moved.stock_remote initial f.stocks f.order_lines) ↔ movements.Stock_remote initial r
  pub payment_count : (f : Facts) (r : Rows) → AreFactsOf f r
      → FindsNothing (moved.payment_count f.customers f.histories) ↔ movements.Payment_count r
  pub delivery_count : (initial : ℕ) (f : Facts) (r : Rows) → AreFactsOf f r
      → FindsNothing (moved.delivery_count initial f.customers f.orders) ↔ movements.Delivery_count initial r
  pub all_local : (f : Facts) (r : Rows) → AreFactsOf f r
      → FindsNothing (moved.all_local f.orders f.order_lines) ↔ movements.All_local r
  pub stock_quantity : (f : Facts) (r : Rows) → AreFactsOf f r
      → FindsNothing (moved.stock_quantity f.stocks) ↔ movements.Stock_quantity r

-- no reference is without its row (clauses 1.3 and 1.4)
pub record ReferencesFindNothing (f : Facts) : Type 0 where
  pub districts : FindsNothing (references.districts_refer f.districts f.warehouses)
  pub customers : FindsNothing (references.customers_refer f.customers f.districts)
  pub payers : FindsNothing (references.histories_refer_to_customers f.histories f.customers)
  pub payments : FindsNothing (references.histories_refer_to_districts f.histories f.districts)
  pub new_orders : FindsNothing (references.new_orders_refer f.new_orders f.orders)
  pub orders : FindsNothing (references.orders_refer f.orders f.customers)
  pub lines : FindsNothing (references.lines_refer_to_orders f.order_lines f.orders)
  pub supplies : FindsNothing (references.lines_refer_to_stocks f.order_lines f.stocks)
  pub homes : FindsNothing (references.stocks_refer_to_warehouses f.stocks f.warehouses)
  pub items : FindsNothing (references.stocks_refer_to_items f.stocks f.items)

-- a warehouse has its ten districts
abbrev pub HasTenDistricts : Rows → Type 0
HasTenDistricts r =
    (k : DistrictKey) → IsSome (get r.warehouses (warehouse_of_district k)) → 1 ≤ k.district → k.district ≤ 10
    → IsSome (get r.districts k)

-- no key stands twice (clause 1.3.1)
pub record KeysStandOnce (f : Facts) : Type 0 where
  pub warehouses : FindsNothing (keys.warehouses_once f.warehouses)
  pub districts : FindsNothing (keys.districts_once f.districts)
  pub customers : FindsNothing (keys.customers_once f.customers)
  pub new_orders : FindsNothing (keys.new_orders_once f.new_orders)
  pub orders : FindsNothing (keys.orders_once f.orders)
  pub items : FindsNothing (keys.items_once f.items)
  pub stocks : FindsNothing (keys.stocks_once f.stocks)

-- the schema
pub record Schema_is_checked : Type 0 where
  -- the references are the schema's, beside the ten districts
  pub references : (f : Facts) (r : Rows) → AreFactsOf f r → (ReferencesFindNothing f × HasTenDistricts r) ↔ Meets r
  -- each warehouse has a STOCK row for each ITEM row
  pub stocked : (f : Facts) (r : Rows) → AreFactsOf f r
      → FindsNothing (stock_apart f.warehouses f.items f.stocks) ↔ model.IsStocked r
  -- tables have no key twice
  pub keys : (f : Facts) (r : Rows) → AreFactsOf f r → KeysStandOnce f

-- the list of the keys that a check finds is empty exactly where it finds nothing: of keys of warehouses and items, of
-- districts, of customers, of orders, and of STOCK rows
pub record Lists_are_findings : Type 0 where
  pub numbers : (check : ℕ → Option Apart) (found : List (ℕ × Apart)) → AreAll nat_cmp nat_eq check found
      → (found ≡ []) ↔ FindsNothing check
  pub districts : (check : DistrictId → Option Apart) (found : List (DistrictId × Apart))
      → AreAll district_cmp same_district check found → (found ≡ []) ↔ FindsNothing check
  pub customers : (check : CustomerId → Option Apart) (found : List (CustomerId × Apart))
      → AreAll customer_cmp same_customer check found → (found ≡ []) ↔ FindsNothing check
  pub orders : (check : OrderId → Option Apart) (found : List (OrderId × Apart))
      → AreAll order_cmp same_order check found → (found ≡ []) ↔ FindsNothing check
  pub stocks : (check : StockId → Option Apart) (found : List (StockId × Apart))
      → AreAll stock_cmp same_stock check found → (found ≡ []) ↔ FindsNothing check

-- the order of a district with this number
abbrev pub order_at : DistrictId → ℕ → OrderId
order_at d n = record { warehouse = d.warehouse; district = d.district; order = n }

-- where no ORDER key stands twice, and the greatest O_ID of a district is the number of its ORDER rows, it has one
-- ORDER row of each number from 1 to the greatest; O_ID is at least 1, as each in its column's range is
abbrev pub Orders_have_no_gap : Type 0
Orders_have_no_gap =
    (orders : List OrderFact) (d : DistrictId) (greatest : ℕ) → All (λ f. 1 ≤ f.key.order) orders
    → FindsNothing (keys.orders_once orders) → orders_without_gap orders d ≡ None
    → greatest_order orders d ≡ Some (pos greatest)
    → (n : ℕ) → 1 ≤ n → n ≤ greatest → order_rows orders (order_at d n) ≡ Some (pos 1)
