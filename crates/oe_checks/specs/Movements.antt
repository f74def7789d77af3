-- What New-Order, Payment and Delivery keep beside the consistency conditions.
use Rattle.std.specs.Prelude.{ℕ, List, Option}
use Rattle.oe_facts.specs.declared.keys.CustomerId.{CustomerId}
use Rattle.oe_facts.specs.declared.keys.OrderId.{OrderId}
use Rattle.oe_facts.specs.declared.keys.StockId.{StockId}
use Rattle.oe_facts.specs.declared.facts.StockFact.{StockFact}
use Rattle.oe_facts.specs.declared.facts.OrderLineFact.{OrderLineFact}
use Rattle.oe_facts.specs.declared.facts.CustomerFact.{CustomerFact}
use Rattle.oe_facts.specs.declared.facts.HistoryFact.{HistoryFact}
use Rattle.oe_facts.specs.declared.facts.OrderFact.{OrderFact}
use Rattle.oe_ledgers.specs.Figures.{s_ytd, ordered_quantity, s_orders, ordered_lines}
use Rattle.oe_ledgers.specs.Figures.{s_remotes, ordered_remotes, c_payments, payments_of_customer}
use Rattle.oe_ledgers.specs.Figures.{c_deliveries, deliveries_to_customer, is_remote, remote_lines}
use Rattle.oe_ledgers.specs.Figures.{s_quantity}
use Rattle.oe_checks.specs.declared.figures.Apart.{Apart}
use Rattle.oe_checks.specs.Comparing.{against, any_against, outside}

-- clauses 2.4.2.2, 4.3.3.1: S_YTD is the sum of OL_QUANTITY of the lines that the row supplied, where the population
-- did not have their order
abbrev pub stock_ytd : ℕ → List StockFact → List OrderLineFact → StockId → Option Apart
stock_ytd initial stocks lines k = against (s_ytd stocks k) (ordered_quantity initial lines k)

-- clauses 2.4.2.2, 4.3.3.1: S_ORDER_CNT is the number of these lines
abbrev pub stock_orders : ℕ → List StockFact → List OrderLineFact → StockId → Option Apart
stock_orders initial stocks lines k = against (s_orders stocks k) (ordered_lines initial lines k)

-- clauses 2.4.2.2, 4.3.3.1: S_REMOTE_CNT is the number of these lines of another warehouse's order
abbrev pub stock_remote : ℕ → List StockFact → List OrderLineFact → StockId → Option Apart
stock_remote initial stocks lines k = against (s_remotes stocks k) (ordered_remotes initial lines k)

-- clauses 2.5.2.2, 4.3.3.1: C_PAYMENT_CNT is the number of HISTORY rows
abbrev pub payment_count : List CustomerFact → List HistoryFact → CustomerId → Option Apart
payment_count customers histories k = against (c_payments customers k) (payments_of_customer histories k)

-- clauses 2.7.4.2, 4.3.3.1: C_DELIVERY_CNT is the number of delivered orders that the population had not delivered
abbrev pub delivery_count : ℕ → List CustomerFact → List OrderFact → CustomerId → Option Apart
delivery_count initial customers orders k = against (c_deliveries customers k) (deliveries_to_customer initial orders k)

-- clause 2.4.2.2: O_ALL_LOCAL is 0 exactly where another warehouse supplies a line
abbrev pub all_local : List OrderFact → List OrderLineFact → OrderId → Option Apart
all_local orders lines k = any_against (is_remote orders k) (remote_lines lines k)

-- clauses 2.4.2.2, 4.3.3.1: S_QUANTITY is 10 to 100
abbrev pub stock_quantity : List StockFact → StockId → Option Apart
stock_quantity stocks k = outside (s_quantity stocks k)
