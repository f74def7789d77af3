-- The tallies of NEW-ORDER rows have the figures of the facts.
use Rattle.std.proofs.Common.{◌≡◌, refl, ◌∙◌, ap, arith, List}
use Rattle.std.specs.Prelude.{pos}
use Rattle.std.specs.Int.{int_max, int_min}
use Rattle.std.specs.Option.{option_map}
use Rattle.oe_tally.specs.Tallies.{total}
use Rattle.oe_tally.specs.Counting.{counts_joined}
use Rattle.oe_tally.specs.declared.count.Count.{Count}
use Rattle.oe_facts.specs.declared.keys.DistrictId.{DistrictId}
use Rattle.oe_facts.specs.declared.keys.OrderId.{OrderId}
use Rattle.oe_facts.specs.declared.facts.NewOrderFact.{NewOrderFact}
use Rattle.oe_ledgers.specs.declared.new_orders.NewOrderSums.{NewOrderSums}
use Rattle.oe_ledgers.specs.declared.new_orders.NewOrders.{NewOrders}
use Rattle.oe_ledgers.specs.Keys.{same_district, same_order}
use Rattle.oe_ledgers.specs.Sums.{new_orders_joined}
use Rattle.oe_ledgers.specs.Keeping.{KeepsNewOrders, new_order_entry, new_order_district_entry}
use Rattle.oe_ledgers.specs.Figures.{AreFew}
use Rattle.oe_ledgers.specs.Figures.{new_order_rows}
use Rattle.oe_ledgers.specs.Figures.{least_new_order}
use Rattle.oe_ledgers.specs.Figures.{greatest_new_order}
use Rattle.oe_ledgers.specs.Figures.{new_orders_of_district}
use Rattle.oe_ledgers.specs.Figures.{has_new_order}
use Rattle.oe_ledgers.proofs.SumFacts.{projected, pos_max, pos_min, counted}

pub new_order_rows-kept : (facts : List NewOrderFact) (kept : NewOrders) → KeepsNewOrders facts kept → AreFew facts
    → (k : OrderId)
    → option_map (λ (s : Count). pos s.rows) (total same_order counts_joined kept.by_order k) ≡ new_order_rows facts k
new_order_rows-kept facts kept is few k =
    ap (option_map (λ (s : Count). pos s.rows)) (is.by_order k)
    ∙ counted same_order counts_joined new_order_entry (λ (s : Count). s.rows) (λ a b. refl) (λ f. omega arith) facts
    few k

pub least_new_order-kept : (facts : List NewOrderFact) (kept : NewOrders) → KeepsNewOrders facts kept → (k : DistrictId)
    → option_map (λ (s : NewOrderSums). pos s.least) (total same_district new_orders_joined kept.by_district k)
    ≡ least_new_order facts k
least_new_order-kept facts kept is k =
    ap (option_map (λ (s : NewOrderSums). pos s.least)) (is.by_district k)
    ∙ projected same_district new_orders_joined int_min new_order_district_entry (λ (s : NewOrderSums). pos s.least)
    (λ a b. pos_min a.least b.least) facts k

pub greatest_new_order-kept : (facts : List NewOrderFact) (kept : NewOrders) → KeepsNewOrders facts kept
    → (k : DistrictId)
    → option_map (λ (s : NewOrderSums). pos s.greatest) (total same_district new_orders_joined kept.by_district k)
    ≡ greatest_new_order facts k
greatest_new_order-kept facts kept is k =
    ap (option_map (λ (s : NewOrderSums). pos s.greatest)) (is.by_district k)
    ∙ projected same_district new_orders_joined int_max new_order_district_entry
    (λ (s : NewOrderSums). pos s.greatest) (λ a b. pos_max a.greatest b.greatest) facts k

pub new_orders_of_district-kept : (facts : List NewOrderFact) (kept : NewOrders) → KeepsNewOrders facts kept
    → AreFew facts → (k : DistrictId)
    → option_map (λ (s : NewOrderSums). pos s.rows) (total same_district new_orders_joined kept.by_district k)
    ≡ new_orders_of_district facts k
new_orders_of_district-kept facts kept is few k =
    ap (option_map (λ (s : NewOrderSums). pos s.rows)) (is.by_district k)
    ∙ counted same_district new_orders_joined new_order_district_entry (λ (s : NewOrderSums). s.rows) (λ a b. refl)
    (λ f. omega arith) facts few k

pub has_new_order-kept : (facts : List NewOrderFact) (kept : NewOrders) → KeepsNewOrders facts kept → (k : OrderId)
    → option_map (λ (s : Count). pos 1) (total same_order counts_joined kept.by_order k) ≡ has_new_order facts k
has_new_order-kept facts kept is k =
    ap (option_map (λ (s : Count). pos 1)) (is.by_order k)
    ∙ projected same_order counts_joined int_max new_order_entry (λ (s : Count). pos 1) (λ a b. refl) facts k
