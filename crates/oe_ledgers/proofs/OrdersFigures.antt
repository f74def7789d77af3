-- The tallies of ORDER rows have the figures of the facts.
use Rattle.std.proofs.Common.{◌≡◌, refl, ◌∙◌, ap, arith, cond, ◌&&◌, nat_lt, List}
use Rattle.std.specs.Prelude.{pos}
use Rattle.std.specs.Int.{int_max, int_min}
use Rattle.std.specs.Option.{option_map}
use Rattle.oe_tally.specs.Tallies.{total}
use Rattle.oe_facts.specs.declared.keys.CustomerId.{CustomerId}
use Rattle.oe_facts.specs.declared.keys.DistrictId.{DistrictId}
use Rattle.oe_facts.specs.declared.keys.OrderId.{OrderId}
use Rattle.oe_facts.specs.declared.facts.OrderFact.{OrderFact}
use Rattle.oe_ledgers.specs.declared.orders.CustomerOrders.{CustomerOrders}
use Rattle.oe_ledgers.specs.declared.orders.DistrictOrders.{DistrictOrders}
use Rattle.oe_ledgers.specs.declared.orders.OrderSums.{OrderSums}
use Rattle.oe_ledgers.specs.declared.orders.Orders.{Orders}
use Rattle.oe_ledgers.specs.Keys.{same_district, same_customer, same_order}
use Rattle.oe_ledgers.specs.Sums.{customer_orders_joined, district_orders_joined, orders_joined}
use Rattle.oe_ledgers.specs.Keeping.{KeepsOrders, delivered_of, order_entry, order_district_entry, order_customer_entry}
use Rattle.oe_ledgers.specs.Figures.{AreFew, AreNumbers}
use Rattle.oe_ledgers.specs.Figures.{o_line_count}
use Rattle.oe_ledgers.specs.Figures.{order_rows}
use Rattle.oe_ledgers.specs.Figures.{lines_asked}
use Rattle.oe_ledgers.specs.Figures.{greatest_order}
use Rattle.oe_ledgers.specs.Figures.{orders_of_district}
use Rattle.oe_ledgers.specs.Figures.{orders_of_customer}
use Rattle.oe_ledgers.specs.Figures.{deliveries_to_customer}
use Rattle.oe_ledgers.specs.Figures.{is_delivered}
use Rattle.oe_ledgers.specs.Figures.{is_all_local}
use Rattle.oe_ledgers.specs.Figures.{is_open}
use Rattle.oe_ledgers.specs.Figures.{is_remote}
use Rattle.oe_ledgers.proofs.SumFacts.{projected, pos_max, either_flag, either_open, either_open, counted, quantities}
use Rattle.oe_ledgers.proofs.SumFacts.{flag}

pub o_line_count-kept : (facts : List OrderFact) (kept : Orders) → KeepsOrders facts kept → (k : OrderId)
    → option_map (λ (s : OrderSums). pos s.line_count) (total same_order orders_joined kept.by_order k)
    ≡ o_line_count facts k
o_line_count-kept facts kept is k =
    ap (option_map (λ (s : OrderSums). pos s.line_count)) (is.by_order k)
    ∙ projected same_order orders_joined int_max order_entry (λ (s : OrderSums). pos s.line_count)
    (λ a b. pos_max a.line_count b.line_count) facts k

pub order_rows-kept : (facts : List OrderFact) (kept : Orders) → KeepsOrders facts kept → AreFew facts → (k : OrderId)
    → option_map (λ (s : OrderSums). pos s.rows) (total same_order orders_joined kept.by_order k) ≡ order_rows facts k
order_rows-kept facts kept is few k =
    ap (option_map (λ (s : OrderSums). pos s.rows)) (is.by_order k)
    ∙ counted same_order orders_joined order_entry (λ (s : OrderSums). s.rows) (λ a b. refl) (λ f. omega arith) facts
    few k

pub lines_asked-kept : (facts : List OrderFact) (kept : Orders) → KeepsOrders facts kept → AreFew facts
    → AreNumbers (λ (f : OrderFact). f.line_count) facts → (k : DistrictId)
    → option_map (λ (s : DistrictOrders). pos s.lines)
    (total same_district district_orders_joined kept.by_district k) ≡ lines_asked facts k
lines_asked-kept facts kept is few numbers k =
    ap (option_map (λ (s : DistrictOrders). pos s.lines)) (is.by_district k)
    ∙ quantities same_district district_orders_joined order_district_entry (λ (s : DistrictOrders). s.lines)
    (λ a b. refl) (λ (f : OrderFact). f.line_count) (λ f. omega arith) facts few numbers k

pub greatest_order-kept : (facts : List OrderFact) (kept : Orders) → KeepsOrders facts kept → (k : DistrictId)
    → option_map (λ (s : DistrictOrders). pos s.greatest)
    (total same_district district_orders_joined kept.by_district k) ≡ greatest_order facts k
greatest_order-kept facts kept is k =
    ap (option_map (λ (s : DistrictOrders). pos s.greatest)) (is.by_district k)
    ∙ projected same_district district_orders_joined int_max order_district_entry
    (λ (s : DistrictOrders). pos s.greatest) (λ a b. pos_max a.greatest b.greatest) facts k

pub orders_of_district-kept : (facts : List OrderFact) (kept : Orders) → KeepsOrders facts kept → AreFew facts
    → (k : DistrictId)
    → option_map (λ (s : DistrictOrders). pos s.rows) (total same_district district_orders_joined kept.by_district k)
    ≡ orders_of_district facts k
orders_of_district-kept facts kept is few k =
    ap (option_map (λ (s : DistrictOrders). pos s.rows)) (is.by_district k)
    ∙ counted same_district district_orders_joined order_district_entry (λ (s : DistrictOrders). s.rows)
    (λ a b. refl) (λ f. omega arith) facts few k

pub orders_of_customer-kept : (facts : List OrderFact) (kept : Orders) → KeepsOrders facts kept → AreFew facts
    → (k : CustomerId)
    → option_map (λ (s : CustomerOrders). pos s.rows) (total same_customer customer_orders_joined kept.by_customer k)
    ≡ orders_of_customer facts k
orders_of_customer-kept facts kept is few k =
    ap (option_map (λ (s : CustomerOrders). pos s.rows)) (is.by_customer k)
    ∙ counted same_customer customer_orders_joined (order_customer_entry kept.initial)
    (λ (s : CustomerOrders). s.rows) (λ a b. refl) (λ f. omega arith) facts few k

pub deliveries_to_customer-kept : (facts : List OrderFact) (kept : Orders) → KeepsOrders facts kept → AreFew facts
    → (k : CustomerId)
    → option_map (λ (s : CustomerOrders). pos s.deliveries)
    (total same_customer customer_orders_joined kept.by_customer k) ≡ deliveries_to_customer kept.initial facts k
deliveries_to_customer-kept facts kept is few k =
    ap (option_map (λ (s : CustomerOrders). pos s.deliveries)) (is.by_customer k)
    ∙ counted same_customer customer_orders_joined (order_customer_entry kept.initial)
    (λ (s : CustomerOrders). s.deliveries) (λ a b. refl)
    (λ f. flag (f.is_delivered && nat_lt (delivered_of kept.initial) f.key.order)) facts few k

pub is_delivered-kept : (facts : List OrderFact) (kept : Orders) → KeepsOrders facts kept → (k : OrderId)
    → option_map (λ (s : OrderSums). pos (cond s.is_delivered 1 0)) (total same_order orders_joined kept.by_order k)
    ≡ is_delivered facts k
is_delivered-kept facts kept is k =
    ap (option_map (λ (s : OrderSums). pos (cond s.is_delivered 1 0))) (is.by_order k)
    ∙ projected same_order orders_joined int_max order_entry (λ (s : OrderSums). pos (cond s.is_delivered 1 0))
    (λ a b. either_flag a.is_delivered b.is_delivered) facts k

pub is_open-kept : (facts : List OrderFact) (kept : Orders) → KeepsOrders facts kept → (k : OrderId)
    → option_map (λ (s : OrderSums). pos (cond s.is_delivered 0 1)) (total same_order orders_joined kept.by_order k)
    ≡ is_open facts k
is_open-kept facts kept is k =
    ap (option_map (λ (s : OrderSums). pos (cond s.is_delivered 0 1))) (is.by_order k)
    ∙ projected same_order orders_joined int_min order_entry (λ (s : OrderSums). pos (cond s.is_delivered 0 1))
    (λ a b. either_open a.is_delivered b.is_delivered) facts k

pub is_remote-kept : (facts : List OrderFact) (kept : Orders) → KeepsOrders facts kept → (k : OrderId)
    → option_map (λ (s : OrderSums). pos (cond s.is_all_local 0 1)) (total same_order orders_joined kept.by_order k)
    ≡ is_remote facts k
is_remote-kept facts kept is k =
    ap (option_map (λ (s : OrderSums). pos (cond s.is_all_local 0 1))) (is.by_order k)
    ∙ projected same_order orders_joined int_min order_entry (λ (s : OrderSums). pos (cond s.is_all_local 0 1))
    (λ a b. either_open a.is_all_local b.is_all_local) facts k
