use Rattle.std.proofs.Common.{◌≡◌, ◌+◌, ◌*◌, ◌/◌, ◌%◌, ◌<◌, ap, refl, arith}
use Rattle.std.specs.Prelude.{◌&&◌, not}
use Rattle.std.specs.FinMap.{empty}
use Rattle.oe_rows.specs.Key.{new_order_cmp}
use Rattle.oe_model.specs.Keys.{district_of_new_order}
use Rattle.oe_model.specs.Population.{counts_to, is_delivered}
use Rattle.oe_population.specs.Group.{is_any_district, district_count, new_orders_in, no_columns}
use Rattle.oe_population.proofs.FillFacts.{fill_start, fill_step, fill_free, fills_by, free_empty}
use Rattle.oe_population.proofs.KeyTests.{same_ordinal, all_districts}
use Rattle.oe_rows.specs.declared.keys.DistrictKey.{DistrictKey}
use Rattle.oe_population.proofs.fills.new_orders.Goals as goal

pub loop-ordinal-init : goal.loop-ordinal-init
loop-ordinal-init c = rw c.new-table.ensures.rows
    (fill_start (λ k. no_columns)
    (λ k b. ((b && is_any_district (district_of_new_order k)) && counts_to c.args.scale.now.customers k.order) && not
    (is_delivered c.args.scale.now k.order)) (λ k. refl) (λ k. district_count (district_of_new_order k)) empty)

pub fill_new_orders-requires : goal.fill_new_orders-requires
fill_new_orders-requires c =
    let g : DistrictKey =
    record { warehouse = c.loop-ordinal.ordinal / 10 + 1; district = c.loop-ordinal.ordinal % 10 + 1 } in
    let small : c.loop-ordinal.ordinal < 10 * c.args.scale.now.warehouses = omega arith in
    rw c.district_at.ensures
    (fill_free (λ k. no_columns)
    (λ k b. ((b && is_any_district (district_of_new_order k)) && counts_to c.args.scale.now.customers k.order) &&
    not (is_delivered c.args.scale.now k.order)) (λ k. refl) (λ k. district_count (district_of_new_order k))
    c.loop-ordinal.ordinal _ _ (new_orders_in g c.args.scale.now)
    (λ k. ap (λ b. (b && counts_to c.args.scale.now.customers k.order) && not
    (is_delivered c.args.scale.now k.order)) (same_ordinal c.loop-ordinal.ordinal (district_of_new_order k)))
    c.loop-ordinal.invariant _ small (free_empty new_order_cmp _))

pub loop-ordinal-preserved : goal.loop-ordinal-preserved
loop-ordinal-preserved c =
    let g : DistrictKey =
    record { warehouse = c.loop-ordinal.ordinal / 10 + 1; district = c.loop-ordinal.ordinal % 10 + 1 } in
    fill_step (λ k. no_columns)
    (λ k b. ((b && is_any_district (district_of_new_order k)) && counts_to c.args.scale.now.customers k.order) &&
    not (is_delivered c.args.scale.now k.order)) (λ k. refl) (λ k. district_count (district_of_new_order k))
    c.loop-ordinal.ordinal _ _ (new_orders_in g c.args.scale.now)
    (λ k. ap (λ b. (b && counts_to c.args.scale.now.customers k.order) && not
    (is_delivered c.args.scale.now k.order)) (same_ordinal c.loop-ordinal.ordinal (district_of_new_order k)))
    c.loop-ordinal.invariant _ (rw c.district_at.ensures at c.in_ok-fill_new_orders.ensures)

pub returns : goal.returns
returns c =
    let all : c.loop-ordinal.ordinal ≡ 10 * c.args.scale.now.warehouses = omega arith in
    fills_by (λ k. no_columns)
    (λ k. ((counts_to (10 * c.args.scale.now.warehouses) (district_count (district_of_new_order k)) &&
    is_any_district (district_of_new_order k)) && counts_to c.args.scale.now.customers k.order) && not (is_delivered
    c.args.scale.now k.order)) _ _ _ (λ k. ap (λ b. (b && counts_to c.args.scale.now.customers k.order) && not
    (is_delivered c.args.scale.now k.order)) (all_districts c.args.scale.now.warehouses (district_of_new_order k)))
    (rw all at c.loop-ordinal.invariant)
