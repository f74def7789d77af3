use Rattle.std.proofs.Common.{◌+◌, ◌<◌, ap, refl, arith}
use Rattle.std.specs.Prelude.{◌&&◌, not}
use Rattle.oe_model.specs.Keys.{district_of_new_order, new_order_in}
use Rattle.oe_model.specs.Population.{is_delivered}
use Rattle.oe_population.specs.Group.{is_district, no_columns, is_new_order}
use Rattle.oe_population.proofs.FillFacts.{and_false, fill_step, fill_free}
use Rattle.oe_population.proofs.fills.fill_new_orders.Goals as goal

pub put_undelivered-requires : goal.put_undelivered-requires
put_undelivered-requires c =
    let small : c.loop-before.before < c.args.scale.now.customers = omega arith in
    rw c.number.ensures (fill_free (λ k. no_columns)
    (λ k b. (is_district c.args.district (district_of_new_order k) && b) && not
    (is_delivered c.args.scale.now k.order)) (λ k. ap (λ b. b && not (is_delivered c.args.scale.now k.order))
    (and_false (is_district c.args.district (district_of_new_order k)))) (λ k. k.order) c.loop-before.before _ _
    (is_new_order c.args.scale.now (new_order_in c.args.district (c.loop-before.before + 1))) (λ k. refl)
    c.loop-before.invariant _ small c.requires)

pub loop-before-preserved : goal.loop-before-preserved
loop-before-preserved c =
    fill_step (λ k. no_columns)
    (λ k b. (is_district c.args.district (district_of_new_order k) && b) && not
    (is_delivered c.args.scale.now k.order)) (λ k. ap (λ b. b && not (is_delivered c.args.scale.now k.order))
    (and_false (is_district c.args.district (district_of_new_order k)))) (λ k. k.order) c.loop-before.before _ _
    (is_new_order c.args.scale.now (new_order_in c.args.district (c.loop-before.before + 1))) (λ k. refl)
    c.loop-before.invariant _ (rw c.number.ensures at c.in_ok-put_undelivered.ensures)
