use Rattle.std.proofs.Common.{◌≡◌, ◌∙◌, sym, ap, subst, nat_eq}
use Rattle.std.specs.Prelude.{pos}
use Rattle.std.specs.Map.{lookup}
use Rattle.oe_tally.specs.Tallies.{total, IsSettled}
use Rattle.oe_tally.specs.Counting.{counts_joined}
use Rattle.oe_tally.specs.declared.count.Count.{Count}
use Rattle.oe_ledgers.specs.declared.warehouses.WarehouseSums.{WarehouseSums}
use Rattle.oe_ledgers.specs.declared.stocks.StockSums.{StockSums}
use Rattle.oe_ledgers.specs.Keys.{same_stock, stock_cmp}
use Rattle.oe_ledgers.specs.Sums.{stocks_joined, warehouses_joined}
use Rattle.oe_ledgers.proofs.WarehousesFigures.{warehouse_rows-kept}
use Rattle.oe_ledgers.proofs.ItemsFigures.{item_rows-kept}
use Rattle.oe_ledgers.proofs.StocksFigures.{stock_rows-kept}
use Rattle.oe_checks.specs.Sizes.{missing_stock, all_missing}
use Rattle.oe_checks.proofs.FindingFacts.{if_ok, alike_of_three}
use Rattle.oe_checks.proofs.SizeFacts.{unstocked-mapped, all-missing}
use Rattle.oe_checks.proofs.sizes.stocked.Goals as goal

pub returns : goal.returns
returns c ws its ss kept_ws few_ws kept_is few_is kept_ss few_ss =
    let warehouses = c.args.warehouses.now.by_warehouse in
    let items = c.args.items.now.by_item in
    let stocks = c.args.stocks.now.by_stock in
    let all = all-missing stocks items warehouses c.requires.items.by_item c.requires.warehouses.by_warehouse in
    if_ok c.missing.result c.missing.ensures (λ found is.
    let whole : found.items ≡ all_missing stocks items warehouses =
    is ∙ ap (λ es. all_missing stocks es c.entries-there.result.now) c.entries.ensures.value
    ∙ ap (all_missing stocks items) c.entries-there.ensures.value in
    record {
      ordered = subst (λ es. IsSettled stock_cmp es) (sym whole) all.ordered;
      exact = λ k. ap (lookup (λ x. same_stock x k)) whole ∙ all.exact k
          ∙ unstocked-mapped (λ (s : WarehouseSums). pos s.rows) (λ (s : Count). pos s.rows)
          (λ (s : StockSums). pos s.rows)
          (total nat_eq warehouses_joined warehouses k.warehouse) (total nat_eq counts_joined items k.item)
          (total same_stock stocks_joined stocks k)
          ∙ alike_of_three missing_stock (warehouse_rows-kept ws c.args.warehouses.now kept_ws few_ws k.warehouse)
          (item_rows-kept its c.args.items.now kept_is few_is k.item)
          (stock_rows-kept ss c.args.stocks.now kept_ss few_ss k);
    })
