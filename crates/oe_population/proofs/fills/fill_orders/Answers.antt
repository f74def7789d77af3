use Rattle.std.proofs.Common.{◌+◌, ◌<◌, ◌∙◌, ap, arith}
use Rattle.std.specs.Prelude.{◌&&◌}
use Rattle.std.specs.Ordering.{eq_by_cmp}
use Rattle.std.specs.FinMap.{insert}
use Rattle.oe_rows.specs.Key.{order_cmp}
use Rattle.oe_rows.proofs.KeyFacts.{order_total, exact_order}
use Rattle.oe_model.specs.Keys.{district_of_order, order_in}
use Rattle.oe_model.specs.Population.{order_of}
use Rattle.oe_model.proofs.MapFacts.{is_self}
use Rattle.oe_population.specs.Group.{is_district}
use Rattle.oe_population.proofs.FillFacts.{and_false, fill_step, fill_free, fills_put}
use Rattle.oe_population.proofs.KeyTests.{same_order}
use Rattle.oe_rows.specs.declared.keys.OrderKey.{OrderKey}
use Rattle.oe_population.proofs.fills.fill_orders.Goals as goal

pub put_new-requires : goal.put_new-requires
put_new-requires c =
    let key : OrderKey = order_in c.args.district (c.loop-before.before + 1) in
    let small : c.loop-before.before < c.args.scale.now.customers = omega arith in
    rw c.number.ensures (fill_free (λ k. order_of c.args.scale.now k.order)
    (λ k b. is_district c.args.district (district_of_order k) && b)
    (λ k. and_false (is_district c.args.district (district_of_order k))) (λ k. k.order) c.loop-before.before _ _
    (λ k. eq_by_cmp order_cmp k key) (same_order c.args.district (c.loop-before.before + 1)) c.loop-before.invariant
    _ small c.requires key (is_self order_total exact_order key))

pub loop-before-preserved : goal.loop-before-preserved
loop-before-preserved c =
    let key : OrderKey = order_in c.args.district (c.loop-before.before + 1) in
    let put = rw (c.number.ensures, c.number-customer.ensures) at
    (c.in_ok-put_new.ensures.rows ∙ ap (insert _ _) c.order_row-row.ensures) in
    fill_step (λ k. order_of c.args.scale.now k.order) (λ k b. is_district c.args.district (district_of_order k) && b)
    (λ k. and_false (is_district c.args.district (district_of_order k))) (λ k. k.order) c.loop-before.before _ _
    (λ k. eq_by_cmp order_cmp k key) (same_order c.args.district (c.loop-before.before + 1)) c.loop-before.invariant
    _ (fills_put (λ k. order_of c.args.scale.now k.order) order_total exact_order _ _ key put)
