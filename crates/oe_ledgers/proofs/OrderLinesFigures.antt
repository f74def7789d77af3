-- The tallies of ORDER-LINE rows have the figures of the facts.
use Rattle.std.proofs.Common.{◌≡◌, refl, ◌∙◌, ap, arith, nat_eq, nat_lt, List}
use Rattle.std.specs.Prelude.{pos}
use Rattle.std.specs.Option.{option_map}
use Rattle.oe_tally.specs.Tallies.{total}
use Rattle.oe_tally.specs.Counting.{counts_joined}
use Rattle.oe_tally.specs.declared.count.Count.{Count}
use Rattle.oe_facts.specs.declared.keys.DistrictId.{DistrictId}
use Rattle.oe_facts.specs.declared.keys.OrderId.{OrderId}
use Rattle.oe_facts.specs.declared.keys.StockId.{StockId}
use Rattle.oe_facts.specs.declared.facts.OrderLineFact.{OrderLineFact}
use Rattle.oe_ledgers.specs.declared.order_lines.LineSums.{LineSums}
use Rattle.oe_ledgers.specs.declared.order_lines.SupplySums.{SupplySums}
use Rattle.oe_ledgers.specs.declared.order_lines.OrderLines.{OrderLines}
use Rattle.oe_ledgers.specs.Keys.{same_district, same_order, same_stock}
use Rattle.oe_ledgers.specs.Sums.{lines_joined, supplies_joined}
use Rattle.oe_ledgers.specs.Keeping.{KeepsOrderLines, line_entry, line_district_entry, supply_entry}
use Rattle.oe_ledgers.specs.Figures.{AreFew, AreNumbers}
use Rattle.oe_ledgers.specs.Figures.{lines_of_order}
use Rattle.oe_ledgers.specs.Figures.{delivered_lines}
use Rattle.oe_ledgers.specs.Figures.{remote_lines}
use Rattle.oe_ledgers.specs.Figures.{lines_there}
use Rattle.oe_ledgers.specs.Figures.{ordered_quantity}
use Rattle.oe_ledgers.specs.Figures.{ordered_lines}
use Rattle.oe_ledgers.specs.Figures.{ordered_remotes}
use Rattle.oe_ledgers.specs.Figures.{lines_of_stock}
use Rattle.oe_ledgers.proofs.SumFacts.{counted, quantities}
use Rattle.oe_ledgers.proofs.SumFacts.{flag, other_flag, flag_of, at_most}

pub lines_of_order-kept : (facts : List OrderLineFact) (kept : OrderLines) → KeepsOrderLines facts kept
    → AreFew facts → (k : OrderId)
    → option_map (λ (s : LineSums). pos s.rows) (total same_order lines_joined kept.by_order k) ≡ lines_of_order facts k
lines_of_order-kept facts kept is few k =
    ap (option_map (λ (s : LineSums). pos s.rows)) (is.by_order k)
    ∙ counted same_order lines_joined line_entry (λ (s : LineSums). s.rows) (λ a b. refl) (λ f. omega arith) facts few k

pub delivered_lines-kept : (facts : List OrderLineFact) (kept : OrderLines) → KeepsOrderLines facts kept
    → AreFew facts → (k : OrderId)
    → option_map (λ (s : LineSums). pos s.delivered) (total same_order lines_joined kept.by_order k)
    ≡ delivered_lines facts k
delivered_lines-kept facts kept is few k =
    ap (option_map (λ (s : LineSums). pos s.delivered)) (is.by_order k)
    ∙ counted same_order lines_joined line_entry (λ (s : LineSums). s.delivered) (λ a b. refl)
    (λ f. flag f.is_delivered) facts few k

pub remote_lines-kept : (facts : List OrderLineFact) (kept : OrderLines) → KeepsOrderLines facts kept → AreFew facts
    → (k : OrderId)
    → option_map (λ (s : LineSums). pos s.remotes) (total same_order lines_joined kept.by_order k)
    ≡ remote_lines facts k
remote_lines-kept facts kept is few k =
    ap (option_map (λ (s : LineSums). pos s.remotes)) (is.by_order k)
    ∙ counted same_order lines_joined line_entry (λ (s : LineSums). s.remotes) (λ a b. refl)
    (λ f. other_flag (nat_eq f.supply f.order.warehouse)) facts few k

pub lines_there-kept : (facts : List OrderLineFact) (kept : OrderLines) → KeepsOrderLines facts kept → AreFew facts
    → (k : DistrictId)
    → option_map (λ (s : Count). pos s.rows) (total same_district counts_joined kept.by_district k)
    ≡ lines_there facts k
lines_there-kept facts kept is few k =
    ap (option_map (λ (s : Count). pos s.rows)) (is.by_district k)
    ∙ counted same_district counts_joined line_district_entry (λ (s : Count). s.rows) (λ a b. refl)
    (λ f. omega arith) facts few k

pub ordered_quantity-kept : (facts : List OrderLineFact) (kept : OrderLines) → KeepsOrderLines facts kept
    → AreFew facts → AreNumbers (λ (f : OrderLineFact). f.quantity) facts → (k : StockId)
    → option_map (λ (s : SupplySums). pos s.quantity) (total same_stock supplies_joined kept.by_stock k)
    ≡ ordered_quantity kept.initial facts k
ordered_quantity-kept facts kept is few numbers k =
    ap (option_map (λ (s : SupplySums). pos s.quantity)) (is.by_stock k)
    ∙ quantities same_stock supplies_joined (supply_entry kept.initial) (λ (s : SupplySums). s.quantity)
    (λ a b. refl) (λ (f : OrderLineFact). f.quantity) (λ f. at_most (nat_lt kept.initial f.order.order) f.quantity)
    facts few numbers k

pub ordered_lines-kept : (facts : List OrderLineFact) (kept : OrderLines) → KeepsOrderLines facts kept → AreFew facts
    → (k : StockId)
    → option_map (λ (s : SupplySums). pos s.orders) (total same_stock supplies_joined kept.by_stock k)
    ≡ ordered_lines kept.initial facts k
ordered_lines-kept facts kept is few k =
    ap (option_map (λ (s : SupplySums). pos s.orders)) (is.by_stock k)
    ∙ counted same_stock supplies_joined (supply_entry kept.initial) (λ (s : SupplySums). s.orders) (λ a b. refl)
    (λ f. flag (nat_lt kept.initial f.order.order)) facts few k

pub ordered_remotes-kept : (facts : List OrderLineFact) (kept : OrderLines) → KeepsOrderLines facts kept
    → AreFew facts → (k : StockId)
    → option_map (λ (s : SupplySums). pos s.remotes) (total same_stock supplies_joined kept.by_stock k)
    ≡ ordered_remotes kept.initial facts k
ordered_remotes-kept facts kept is few k =
    ap (option_map (λ (s : SupplySums). pos s.remotes)) (is.by_stock k)
    ∙ counted same_stock supplies_joined (supply_entry kept.initial) (λ (s : SupplySums). s.remotes) (λ a b. refl)
    (λ f. flag_of (nat_lt kept.initial f.order.order) (nat_eq f.supply f.order.warehouse)) facts few k

pub lines_of_stock-kept : (facts : List OrderLineFact) (kept : OrderLines) → KeepsOrderLines facts kept
    → AreFew facts → (k : StockId)
    → option_map (λ (s : SupplySums). pos s.rows) (total same_stock supplies_joined kept.by_stock k)
    ≡ lines_of_stock facts k
lines_of_stock-kept facts kept is few k =
    ap (option_map (λ (s : SupplySums). pos s.rows)) (is.by_stock k)
    ∙ counted same_stock supplies_joined (supply_entry kept.initial) (λ (s : SupplySums). s.rows) (λ a b. refl)
    (λ f. omega arith) facts few k
