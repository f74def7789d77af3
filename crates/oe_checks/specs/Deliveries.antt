-- What was delivered to a customer: the lines of its orders.
use Rattle.std.specs.Prelude.{◌≡◌, ℕ, max, Bool, false, cond, ℤ, pos, ◌+ℤ◌, List, Option, Some, None}
use Rattle.std.specs.Option.{option_map}
use Rattle.oe_tally.specs.Tallies.{total}
use Rattle.oe_facts.specs.declared.keys.CustomerId.{CustomerId}
use Rattle.oe_facts.specs.declared.keys.OrderId.{OrderId}
use Rattle.oe_facts.specs.declared.facts.OrderFact.{OrderFact}
use Rattle.oe_facts.specs.declared.facts.OrderLineFact.{OrderLineFact}
use Rattle.oe_ledgers.specs.declared.takings.Takings.{Takings}
use Rattle.oe_ledgers.specs.declared.orders.OrderSums.{OrderSums}
use Rattle.oe_ledgers.specs.declared.order_lines.LineSums.{LineSums}
use Rattle.oe_ledgers.specs.Columns.{of_key}
use Rattle.oe_ledgers.specs.Keys.{same_customer, same_order}
use Rattle.oe_ledgers.specs.Sums.{takings_joined}
use Rattle.oe_checks.specs.declared.deliveries.Delivery.{Delivery}

-- a customer of an order's district
abbrev pub customer_at : OrderId → ℕ → CustomerId
customer_at k n = record { warehouse = k.warehouse; district = k.district; customer = n }

-- the customer of the order that has this key, by its O_C_ID; none where there is no order
abbrev pub customer_of : List OrderFact → OrderId → Option CustomerId
customer_of orders k = option_map (customer_at k) (of_key same_order (λ f. f.key) max (λ f. f.customer) orders k)

-- both are, and are one
abbrev pub same_known : Option CustomerId → Option CustomerId → Bool
same_known None b = false
same_known (Some a) None = false
same_known (Some a) (Some b) = same_customer a b

-- OL_AMOUNT of a row that has an OL_DELIVERY_D
abbrev pub delivered_amount : OrderLineFact → ℤ
delivered_amount f = cond f.is_delivered f.amount (pos 0)

-- the sum of delivered OL_AMOUNT of the rows whose order is the customer's; none where there is no row
abbrev pub delivered_to : List OrderFact → List OrderLineFact → CustomerId → Option ℤ
delivered_to orders lines c =
    of_key same_known (λ f. customer_of orders f.order) (λ a b. a +ℤ b) delivered_amount lines (Some c)

-- what an order and its lines say: its customer, and what was delivered
abbrev pub delivery : Option OrderSums → Option LineSums → Option Delivery
delivery None lines = None
delivery (Some order) None = None
delivery (Some order) (Some lines) = Some (record { amount = lines.amount; customer = order.customer })

-- what a delivery brings to its customer
abbrev pub delivery_takings : Delivery → Takings
delivery_takings d = record { amount = d.amount; rows = 1 }

abbrev pub delivery_entry : OrderId × Delivery → CustomerId × Takings
delivery_entry e = (customer_at e.0 e.1.customer, delivery_takings e.1)

-- a tally has at each customer what was delivered to it
abbrev pub HasDeliveries : List OrderFact → List OrderLineFact → List (CustomerId × Takings) → Type 0
HasDeliveries orders lines tally =
    (c : CustomerId) → option_map (λ s. s.amount) (total same_customer takings_joined tally c)
    ≡ delivered_to orders lines c
