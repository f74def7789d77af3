-- Among rows with their keys: the customers of a last name, and the orders that are a customer's own.
use Rattle.std.specs.Prelude.{◌==◌, Bool, false, List, filter, Option, None, Some, ℕ}
use Rattle.std.specs.List.{filter_map}
use Rattle.std.specs.Ordering.{eq_by_cmp}
use Rattle.oe_rows.specs.Key.{customer_cmp}
use Rattle.oe_rows.specs.declared.keys.CustomerKey.{CustomerKey}
use Rattle.oe_rows.specs.declared.keys.OrderKey.{OrderKey}
use Rattle.oe_rows.specs.declared.keys.DistrictKey.{DistrictKey}
use Rattle.oe_rows.specs.declared.customers.Customer.{Customer}
use Rattle.oe_rows.specs.declared.orders.Order.{Order}
use Rattle.oe_model.specs.Choice.{first_name_of}
use Rattle.oe_model.specs.Keys.{customer_of_order}

-- C_FIRST and C_ID of the customers of the district with this C_LAST
abbrev pub named_of : DistrictKey → List ℕ → List (CustomerKey × Customer) → List (List ℕ × ℕ)
named_of h last es = filter_map (λ e. first_name_of h last e.0 e.1) es

-- the orders that are the customer's
abbrev pub own_of : CustomerKey → List (OrderKey × Order) → List (OrderKey × Order)
own_of c es = filter (λ e. eq_by_cmp customer_cmp (customer_of_order e.0 e.1) c) es

-- whether the row is of the customer of that number
abbrev pub is_owner : ℕ → Option Order → Bool
is_owner c None = false
is_owner c (Some x) = x.customer == c
