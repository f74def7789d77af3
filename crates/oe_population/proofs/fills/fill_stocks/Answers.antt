use Rattle.std.proofs.Common.{◌+◌, ◌<◌, ◌∙◌, ap, arith}
use Rattle.std.specs.Prelude.{◌&&◌, ◌==◌}
use Rattle.std.specs.Ordering.{eq_by_cmp}
use Rattle.std.specs.FinMap.{insert}
use Rattle.oe_rows.specs.Key.{stock_cmp}
use Rattle.oe_rows.proofs.KeyFacts.{stock_total, exact_stock}
use Rattle.oe_model.specs.Population.{stock_of}
use Rattle.oe_model.proofs.MapFacts.{is_self}
use Rattle.oe_population.proofs.FillFacts.{and_false, fill_step, fill_free, fills_put}
use Rattle.oe_population.proofs.KeyTests.{same_stock}
use Rattle.oe_rows.specs.declared.keys.StockKey.{StockKey}
use Rattle.oe_population.proofs.fills.fill_stocks.Goals as goal

pub put_new-requires : goal.put_new-requires
put_new-requires c =
    let key : StockKey = record { warehouse = c.args.warehouse; item = c.loop-before.before + 1 } in
    let small : c.loop-before.before < c.args.scale.now.items = omega arith in
    rw c.number.ensures (fill_free (λ k. stock_of k.warehouse k.item) (λ k b. (k.warehouse == c.args.warehouse) && b)
    (λ k. and_false (k.warehouse == c.args.warehouse)) (λ k. k.item) c.loop-before.before _ _
    (λ k. eq_by_cmp stock_cmp k key) (same_stock c.args.warehouse (c.loop-before.before + 1))
    c.loop-before.invariant _ small c.requires key (is_self stock_total exact_stock key))

pub loop-before-preserved : goal.loop-before-preserved
loop-before-preserved c =
    let key : StockKey = record { warehouse = c.args.warehouse; item = c.loop-before.before + 1 } in
    let put = rw c.number.ensures at (c.in_ok-put_new.ensures.rows ∙ ap (insert _ _) c.stock_row.ensures) in
    fill_step (λ k. stock_of k.warehouse k.item) (λ k b. (k.warehouse == c.args.warehouse) && b)
    (λ k. and_false (k.warehouse == c.args.warehouse)) (λ k. k.item) c.loop-before.before _ _
    (λ k. eq_by_cmp stock_cmp k key) (same_stock c.args.warehouse (c.loop-before.before + 1))
    c.loop-before.invariant _ (fills_put (λ k. stock_of k.warehouse k.item) stock_total exact_stock _ _ key put)
