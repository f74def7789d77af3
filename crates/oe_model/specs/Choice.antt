-- Which customer is meant, by number or by last name (clauses 2.5.2.2 and 2.6.2.2).
use Rattle.std.specs.Prelude.{◌≡◌, ℕ, ◌+◌, ◌/◌, ◌==◌, Bool, cond, ◌&&◌, List, length, count_by, find, Option, None}
use Rattle.std.specs.Prelude.{Some, option_map, option_and_then}
use Rattle.std.specs.List.{filter_map}
use Rattle.std.specs.Ordering.{eq_by_cmp, nat_cmp, ordering_then, is_lt}
use Rattle.std.specs.Cmp.Lexicographic.{slice_cmp}
use Rattle.std.specs.FinMap.{FinMap, get, entries}
use Rattle.oe_rows.specs.Key.{district_cmp, customer_cmp}
use Rattle.oe_rows.specs.declared.keys.DistrictKey.{DistrictKey}
use Rattle.oe_rows.specs.declared.keys.CustomerKey.{CustomerKey}
use Rattle.oe_rows.specs.declared.keys.Key.TheVariants as key
use Rattle.oe_rows.specs.declared.customers.Customer.{Customer}
use Rattle.oe_rows.specs.declared.customers.CustomerName.{CustomerName}
use Rattle.oe_rows.specs.declared.rows.Row.{Row}
use Rattle.oe_requests.specs.declared.requests.CustomerChoice.{CustomerChoice}
use Rattle.oe_requests.specs.declared.requests.CustomerChoice.TheVariants.{Number, LastName}
use Rattle.oe_model.specs.Keys.{district_of_customer, customer_in}
use Rattle.oe_model.specs.Rows.{Rows, row_at, as_customer}

-- C_FIRST and C_ID of a customer of the district with this C_LAST
abbrev pub first_name_of : DistrictKey → List ℕ → CustomerKey → Customer → Option (List ℕ × ℕ)
first_name_of h last k x = cond
    (eq_by_cmp district_cmp (district_of_customer k) h && eq_by_cmp (slice_cmp nat_cmp) x.name.last last)
    (Some (x.name.first, k.customer)) None

-- C_FIRST and C_ID of each customer of the district with this C_LAST
abbrev pub namesakes : DistrictKey → List ℕ → FinMap customer_cmp Customer → List (List ℕ × ℕ)
namesakes h last customers = filter_map (λ e. first_name_of h last e.0 e.1) (entries customers)

-- the order of C_FIRST, and where that ties of C_ID
abbrev pub comes_before : List ℕ × ℕ → List ℕ × ℕ → Bool
comes_before a b = is_lt (ordering_then (slice_cmp nat_cmp a.0 b.0) (nat_cmp a.1 b.1))

-- the C_ID at position n / 2, rounded up, of n: that with as many before it, and 1
abbrev pub middle : List (List ℕ × ℕ) → Option ℕ
middle xs = option_map (λ x. x.1) (find (λ x. count_by (λ y. comes_before y x) xs + 1 == (length xs + 1) / 2) xs)

-- the C_ID of the customer that is meant, where there is one
abbrev pub customer_meant : DistrictKey → CustomerChoice → FinMap customer_cmp Customer → Option ℕ
customer_meant h (Number c) customers = option_map (λ x. c) (get customers (customer_in h c))
customer_meant h (LastName last) customers = middle (namesakes h last customers)

-- what the customer of a row is called
abbrev pub name_in : Option Row → Option CustomerName
name_in v = option_map (λ (x : Customer). x.name) (option_and_then as_customer v)

-- what a customer is called
abbrev pub name_at : Rows → CustomerKey → Option CustomerName
name_at r k = name_in (row_at r (key.Customer k))

-- each customer has the same names in both
abbrev pub HaveSameNames : Rows → Rows → Type 0
HaveSameNames r s = (k : CustomerKey) → name_at r k ≡ name_at s k
