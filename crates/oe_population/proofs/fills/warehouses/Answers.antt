use Rattle.std.proofs.Common.{◌+◌, ◌<◌, ◌∙◌, ap, refl, arith}
use Rattle.std.specs.Ordering.{eq_by_cmp}
use Rattle.std.specs.FinMap.{insert, empty}
use Rattle.oe_rows.specs.Key.{warehouse_cmp}
use Rattle.oe_rows.proofs.KeyFacts.{warehouse_total, exact_warehouse}
use Rattle.oe_model.specs.Population.{warehouse_of}
use Rattle.oe_model.proofs.MapFacts.{is_self}
use Rattle.oe_population.proofs.FillFacts.{fill_start, fill_step, fill_free, fills_put, free_empty}
use Rattle.oe_population.proofs.KeyTests.{same_warehouse}
use Rattle.oe_rows.specs.declared.keys.WarehouseKey.{WarehouseKey}
use Rattle.oe_population.proofs.fills.warehouses.Goals as goal

pub loop-before-init : goal.loop-before-init
loop-before-init c = rw c.new-table.ensures.rows
    (fill_start (λ k. warehouse_of c.args.scale.now k.warehouse) (λ k b. b) (λ k. refl) (λ k. k.warehouse) empty)

pub put_new-requires : goal.put_new-requires
put_new-requires c =
    let key : WarehouseKey = record { warehouse = c.loop-before.before + 1 } in
    let small : c.loop-before.before < c.args.scale.now.warehouses = omega arith in
    rw c.number.ensures (fill_free (λ k. warehouse_of c.args.scale.now k.warehouse) (λ k b. b) (λ k. refl)
    (λ k. k.warehouse) c.loop-before.before _ _ (λ k. eq_by_cmp warehouse_cmp k key)
    (same_warehouse (c.loop-before.before + 1)) c.loop-before.invariant _ small (free_empty warehouse_cmp _) key
    (is_self warehouse_total exact_warehouse key))

pub loop-before-preserved : goal.loop-before-preserved
loop-before-preserved c =
    let key : WarehouseKey = record { warehouse = c.loop-before.before + 1 } in
    let put = rw c.number.ensures at (c.in_ok-put_new.ensures.rows ∙ ap (insert _ _) c.warehouse_row.ensures) in
    fill_step (λ k. warehouse_of c.args.scale.now k.warehouse) (λ k b. b) (λ k. refl) (λ k. k.warehouse)
    c.loop-before.before _ _ (λ k. eq_by_cmp warehouse_cmp k key) (same_warehouse (c.loop-before.before + 1))
    c.loop-before.invariant _
    (fills_put (λ k. warehouse_of c.args.scale.now k.warehouse) warehouse_total exact_warehouse _ _ key put)
