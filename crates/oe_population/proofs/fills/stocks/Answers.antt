use Rattle.std.proofs.Common.{◌+◌, ◌<◌, refl, arith}
use Rattle.std.specs.Prelude.{◌&&◌}
use Rattle.std.specs.FinMap.{empty}
use Rattle.oe_rows.specs.Key.{stock_cmp}
use Rattle.oe_model.specs.Population.{counts_to, stock_of}
use Rattle.oe_population.specs.Group.{stocks_in}
use Rattle.oe_population.proofs.FillFacts.{fill_start, fill_step, fill_free, free_empty}
use Rattle.oe_population.proofs.fills.stocks.Goals as goal

pub loop-before-init : goal.loop-before-init
loop-before-init c = rw c.new-table.ensures.rows
    (fill_start (λ k. stock_of k.warehouse k.item) (λ k b. b && counts_to c.args.scale.now.items k.item) (λ k. refl)
    (λ k. k.warehouse) empty)

pub fill_stocks-requires : goal.fill_stocks-requires
fill_stocks-requires c =
    let small : c.loop-before.before < c.args.scale.now.warehouses = omega arith in
    rw c.number.ensures (fill_free (λ k. stock_of k.warehouse k.item)
    (λ k b. b && counts_to c.args.scale.now.items k.item) (λ k. refl) (λ k. k.warehouse) c.loop-before.before _ _
    (stocks_in (c.loop-before.before + 1) c.args.scale.now) (λ k. refl) c.loop-before.invariant _ small
    (free_empty stock_cmp _))

pub loop-before-preserved : goal.loop-before-preserved
loop-before-preserved c =
    fill_step (λ k. stock_of k.warehouse k.item) (λ k b. b && counts_to c.args.scale.now.items k.item) (λ k. refl)
    (λ k. k.warehouse) c.loop-before.before _ _ (stocks_in (c.loop-before.before + 1) c.args.scale.now) (λ k. refl)
    c.loop-before.invariant _ (rw c.number.ensures at c.in_ok-fill_stocks.ensures)
