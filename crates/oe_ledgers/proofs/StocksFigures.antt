-- The tallies of STOCK rows have the figures of the facts.
use Rattle.std.proofs.Common.{◌≡◌, refl, ◌∙◌, ap, ℕ, arith, nat_eq, List}
use Rattle.std.specs.Prelude.{pos}
use Rattle.std.specs.Int.{int_max}
use Rattle.std.specs.Option.{option_map}
use Rattle.oe_tally.specs.Tallies.{total}
use Rattle.oe_tally.specs.Counting.{counts_joined}
use Rattle.oe_tally.specs.declared.count.Count.{Count}
use Rattle.oe_facts.specs.declared.keys.StockId.{StockId}
use Rattle.oe_facts.specs.declared.facts.StockFact.{StockFact}
use Rattle.oe_ledgers.specs.declared.stocks.StockSums.{StockSums}
use Rattle.oe_ledgers.specs.declared.stocks.Stocks.{Stocks}
use Rattle.oe_ledgers.specs.Keys.{same_stock}
use Rattle.oe_ledgers.specs.Sums.{stocks_joined}
use Rattle.oe_ledgers.specs.Keeping.{KeepsStocks, stock_entry, stock_warehouse_entry, stock_item_entry}
use Rattle.oe_ledgers.specs.Figures.{AreFew}
use Rattle.oe_ledgers.specs.Figures.{s_quantity}
use Rattle.oe_ledgers.specs.Figures.{s_ytd}
use Rattle.oe_ledgers.specs.Figures.{s_orders}
use Rattle.oe_ledgers.specs.Figures.{s_remotes}
use Rattle.oe_ledgers.specs.Figures.{stock_rows}
use Rattle.oe_ledgers.specs.Figures.{stocks_of_warehouse}
use Rattle.oe_ledgers.specs.Figures.{stocks_of_item}
use Rattle.oe_ledgers.proofs.SumFacts.{projected, pos_max, counted}

pub s_quantity-kept : (facts : List StockFact) (kept : Stocks) → KeepsStocks facts kept → (k : StockId)
    → option_map (λ (s : StockSums). s.quantity) (total same_stock stocks_joined kept.by_stock k) ≡ s_quantity facts k
s_quantity-kept facts kept is k =
    ap (option_map (λ (s : StockSums). s.quantity)) (is.by_stock k)
    ∙ projected same_stock stocks_joined int_max stock_entry (λ (s : StockSums). s.quantity) (λ a b. refl) facts k

pub s_ytd-kept : (facts : List StockFact) (kept : Stocks) → KeepsStocks facts kept → (k : StockId)
    → option_map (λ (s : StockSums). pos s.ytd) (total same_stock stocks_joined kept.by_stock k) ≡ s_ytd facts k
s_ytd-kept facts kept is k =
    ap (option_map (λ (s : StockSums). pos s.ytd)) (is.by_stock k)
    ∙ projected same_stock stocks_joined int_max stock_entry (λ (s : StockSums). pos s.ytd)
    (λ a b. pos_max a.ytd b.ytd) facts k

pub s_orders-kept : (facts : List StockFact) (kept : Stocks) → KeepsStocks facts kept → (k : StockId)
    → option_map (λ (s : StockSums). pos s.orders) (total same_stock stocks_joined kept.by_stock k) ≡ s_orders facts k
s_orders-kept facts kept is k =
    ap (option_map (λ (s : StockSums). pos s.orders)) (is.by_stock k)
    ∙ projected same_stock stocks_joined int_max stock_entry (λ (s : StockSums). pos s.orders)
    (λ a b. pos_max a.orders b.orders) facts k

pub s_remotes-kept : (facts : List StockFact) (kept : Stocks) → KeepsStocks facts kept → (k : StockId)
    → option_map (λ (s : StockSums). pos s.remotes) (total same_stock stocks_joined kept.by_stock k) ≡ s_remotes facts k
s_remotes-kept facts kept is k =
    ap (option_map (λ (s : StockSums). pos s.remotes)) (is.by_stock k)
    ∙ projected same_stock stocks_joined int_max stock_entry (λ (s : StockSums). pos s.remotes)
    (λ a b. pos_max a.remotes b.remotes) facts k

pub stock_rows-kept : (facts : List StockFact) (kept : Stocks) → KeepsStocks facts kept → AreFew facts → (k : StockId)
    → option_map (λ (s : StockSums). pos s.rows) (total same_stock stocks_joined kept.by_stock k) ≡ stock_rows facts k
stock_rows-kept facts kept is few k =
    ap (option_map (λ (s : StockSums). pos s.rows)) (is.by_stock k)
    ∙ counted same_stock stocks_joined stock_entry (λ (s : StockSums). s.rows) (λ a b. refl) (λ f. omega arith) facts
    few k

pub stocks_of_warehouse-kept : (facts : List StockFact) (kept : Stocks) → KeepsStocks facts kept → AreFew facts
    → (k : ℕ)
    → option_map (λ (s : Count). pos s.rows) (total nat_eq counts_joined kept.by_warehouse k)
    ≡ stocks_of_warehouse facts k
stocks_of_warehouse-kept facts kept is few k =
    ap (option_map (λ (s : Count). pos s.rows)) (is.by_warehouse k)
    ∙ counted nat_eq counts_joined stock_warehouse_entry (λ (s : Count). s.rows) (λ a b. refl) (λ f. omega arith)
    facts few k

pub stocks_of_item-kept : (facts : List StockFact) (kept : Stocks) → KeepsStocks facts kept → AreFew facts → (k : ℕ)
    → option_map (λ (s : Count). pos s.rows) (total nat_eq counts_joined kept.by_item k) ≡ stocks_of_item facts k
stocks_of_item-kept facts kept is few k =
    ap (option_map (λ (s : Count). pos s.rows)) (is.by_item k)
    ∙ counted nat_eq counts_joined stock_item_entry (λ (s : Count). s.rows) (λ a b. refl) (λ f. omega arith) facts few k
