-- The sums of a district's customers, one for each C_ID: what was delivered to each, and what each has paid.
use Rattle.std.specs.Prelude.{◌≡◌, ℕ, ◌+◌, ◌-◌, ◌≤◌, ◌&&◌, pos, ◌+ℤ◌, ◌≤ℤ◌, min, Bool, true, cond, List, get_or}
use Rattle.std.specs.Prelude.{Option, None, Some}
use Rattle.std.specs.Ordering.{eq_by_cmp, int_eq}
use Rattle.std.specs.FinMap.{FinMap, get}
use Rattle.oe_rows.specs.Key.{customer_cmp, history_cmp}
use Rattle.oe_rows.specs.declared.keys.DistrictKey.{DistrictKey}
use Rattle.oe_rows.specs.declared.keys.CustomerKey.{CustomerKey}
use Rattle.oe_rows.specs.declared.keys.HistoryKey.{HistoryKey}
use Rattle.oe_rows.specs.declared.keys.OrderLineKey.{OrderLineKey}
use Rattle.oe_rows.specs.declared.customers.Account.{Account}
use Rattle.oe_rows.specs.declared.customers.Customer.{Customer}
use Rattle.oe_rows.specs.declared.histories.History.{History}
use Rattle.oe_rows.specs.declared.orders.OrderLine.{OrderLine}
use Rattle.oe_model.specs.Keys.{district_of_order, order_of_line, customer_in}
use Rattle.oe_model.specs.Rows.{Rows}
use Rattle.oe_model.specs.FurtherConditions.{amount_for, delivered_for, paid_by}
use Rattle.oe_model.specs.Audits.{Condition, Tenth, Twelfth, passes_10, passes_12}
use Rattle.oe_rows_of.specs.Then.{has_row_then}
use Rattle.oe_audit.specs.declared.customers.CustomerCondition.{CustomerCondition}
use Rattle.oe_audit.specs.declared.customers.CustomerCondition.TheVariants as of_customers
use Rattle.oe_audit.specs.declared.ledgers.Ledger.{Ledger}

-- the sum of a C_ID, which is from 1 to 3,000, stands at the place before it
abbrev pub sum_for : List ℕ → ℕ → ℕ
sum_for sums c = get_or sums (c - 1) 0

-- the greatest number that a sum can be
abbrev pub most : ℕ
most = 18_446_744_073_709_551_615

-- the sums have grown by this for each customer, as far as they can
abbrev pub HaveGrown : (ℕ → ℕ) → List ℕ → List ℕ → Type 0
HaveGrown more before after =
    (c : ℕ) → 1 ≤ c → c ≤ 3_000 → sum_for before c ≤ most
    → sum_for after c ≡ min (sum_for before c + more c) most

-- what an ORDER-LINE row adds for a customer of its district
abbrev pub line_adds : Rows → OrderLineKey → OrderLine → ℕ → ℕ
line_adds r l y c =
    amount_for (customer_in (district_of_order (order_of_line l)) c) (order_of_line l)
    (get r.orders (order_of_line l)) y

-- where the line stood then
abbrev pub line_then_adds : Rows → OrderLineKey → Option OrderLine → ℕ → ℕ
line_then_adds r l None c = 0
line_then_adds r l (Some y) c = line_adds r l y c

-- what a HISTORY row that stands adds for a customer, where it stood then
abbrev pub payment_adds : Bool → FinMap history_cmp History → DistrictKey → HistoryKey × History → ℕ → ℕ
payment_adds w m h e c =
    cond (eq_by_cmp customer_cmp e.1.customer (customer_in h c) && has_row_then w m e.0) e.1.amount 0

-- the columns of a payment are in their ranges, by which few payments can be
pub record IsPayment (k : HistoryKey) (y : History) : Type 0 where
  pub terminal : k.terminal ≤ 64
  pub number : k.number ≤ 4_294_967_295
  pub ordinal : k.ordinal ≤ 1
  pub amount : y.amount ≤ 999_999

-- the sums are what was delivered to each customer of the district, as far as a sum can tell
abbrev pub AreDelivered : Rows → DistrictKey → List ℕ → Type 0
AreDelivered r h sums =
    (c : ℕ) → 1 ≤ c → c ≤ 3_000 → sum_for sums c ≡ min (delivered_for r (customer_in h c)) most

-- the sums are what each customer of the district has paid
abbrev pub ArePaid : Rows → DistrictKey → List ℕ → Type 0
ArePaid r h sums =
    (c : ℕ) → 1 ≤ c → c ≤ 3_000
    → (sum_for sums c ≡ paid_by r (customer_in h c)) × (sum_for sums c ≤ 1_000_000_000_000_000_000)

-- a ledger has the sums of the district that it names
pub record IsLedger (r : Rows) (l : Ledger) : Type 0 where
  pub delivered : (h : DistrictKey) → l.district ≡ Some h → AreDelivered r h l.delivered
  pub paid : (h : DistrictKey) → l.district ≡ Some h → ArePaid r h l.paid

-- a condition of customers, as the model's
abbrev pub customer_condition : CustomerCondition → Condition
customer_condition of_customers.Tenth = Tenth
customer_condition of_customers.Twelfth = Twelfth

-- a customer with this row passes it
abbrev pub passes_customer : CustomerCondition → Rows → CustomerKey → Customer → Bool
passes_customer of_customers.Tenth r k x = passes_10 r k x
passes_customer of_customers.Twelfth r k x = passes_12 r k x

-- where there was a row
abbrev pub passes_then : CustomerCondition → Rows → CustomerKey → Option Customer → Bool
passes_then condition r k None = true
passes_then condition r k (Some x) = passes_customer condition r k x

-- an account agrees with what was delivered and what was paid
abbrev pub agrees : CustomerCondition → Account → ℕ → ℕ → Bool
agrees of_customers.Tenth x delivered paid = int_eq (x.balance +ℤ pos paid) (pos delivered)
agrees of_customers.Twelfth x delivered paid = int_eq (x.balance +ℤ pos x.ytd_payment) (pos delivered)

-- an account's columns are in their ranges
pub record IsAccount (x : Account) : Type 0 where
  pub balance : x.balance ≤ℤ pos 999_999_999_999
  pub ytd_payment : x.ytd_payment ≤ 999_999_999_999
