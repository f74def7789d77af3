-- The numbers of lists: of the customers of a district and last name, and of a customer's orders.
use Rattle.std.specs.Prelude.{◌≡◌, ◌↔◌, true, ℕ, ◌+◌, ◌-◌, ◌*◌, ◌%◌, ◌==◌, Bool, false, List, []}
use Rattle.std.specs.Prelude.{◌∷◌, Option, None, Some}
use Rattle.std.specs.FinMap.{FinMap, get}
use Rattle.oe_rows.specs.Key.{customer_cmp}
use Rattle.oe_rows.specs.declared.keys.DistrictKey.{DistrictKey}
use Rattle.oe_rows.specs.declared.keys.CustomerKey.{CustomerKey}
use Rattle.oe_rows.specs.declared.keys.OrderKey.{OrderKey}
use Rattle.oe_rows.specs.declared.customers.Customer.{Customer}
use Rattle.oe_rows.specs.declared.orders.Order.{Order}
use Rattle.oe_model.specs.Keys.{district_of_customer, customer_of_order}
use Rattle.oe_index.specs.Listed.{Keys, IsListed}

-- a number below 1,009 of a name's bytes, from the number of the bytes before them
abbrev pub name_number_from : ℕ → List ℕ → ℕ
name_number_from n [] = n
name_number_from n (b ∷ bs) = name_number_from ((n * 31 + b) % 1_009) bs

abbrev pub name_number : List ℕ → ℕ
name_number last = name_number_from 0 last

-- 1,009 numbers for each of the 10 districts of a warehouse, without a gap
abbrev pub number_in : DistrictKey → ℕ → ℕ
number_in h n = ((h.warehouse - 1) * 10 + (h.district - 1)) * 1_009 + n

-- the number of the list of a last name's customers
abbrev pub list_number : DistrictKey → List ℕ → ℕ
list_number h last = number_in h (name_number last)

abbrev pub list_of_name : CustomerKey → Customer → ℕ
list_of_name k x = list_number (district_of_customer k) x.name.last

-- whether it is the number of the list of the customer's own C_LAST
abbrev pub is_list_of : ℕ → CustomerKey → Option Customer → Bool
is_list_of n k None = false
is_list_of n k (Some x) = list_of_name k x == n

-- the customer is off the list of that number, unless that is the list of its own C_LAST, and else each customer is
-- listed as before
abbrev pub ForgetsName : FinMap customer_cmp Customer → List (Keys CustomerKey) → List (Keys CustomerKey) → ℕ
    → CustomerKey → Type 0
ForgetsName m old new number key =
    (n : ℕ) (k : CustomerKey)
    → IsListed customer_cmp new n k
    ↔ (IsListed customer_cmp old n k × ((n ≡ number) × (k ≡ key) → is_list_of number key (get m key) ≡ true))

-- the number of the list of a customer's orders
abbrev pub owner_number : CustomerKey → ℕ
owner_number k = number_in (district_of_customer k) (k.customer % 1_009)

abbrev pub list_of_owner : OrderKey → Order → ℕ
list_of_owner k x = owner_number (customer_of_order k x)
