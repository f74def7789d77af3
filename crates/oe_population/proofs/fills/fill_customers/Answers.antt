use Rattle.std.proofs.Common.{◌+◌, ◌<◌, ◌∙◌, ap, arith}
use Rattle.std.specs.Prelude.{◌&&◌}
use Rattle.std.specs.Ordering.{eq_by_cmp}
use Rattle.std.specs.FinMap.{insert}
use Rattle.oe_rows.specs.Key.{customer_cmp}
use Rattle.oe_rows.proofs.KeyFacts.{customer_total, exact_customer}
use Rattle.oe_model.specs.Keys.{district_of_customer, customer_in}
use Rattle.oe_model.specs.Population.{customer_of}
use Rattle.oe_model.proofs.MapFacts.{is_self}
use Rattle.oe_population.specs.Group.{is_district}
use Rattle.oe_population.proofs.FillFacts.{and_false, fill_step, fill_free, fills_put}
use Rattle.oe_population.proofs.KeyTests.{same_customer}
use Rattle.oe_rows.specs.declared.keys.CustomerKey.{CustomerKey}
use Rattle.oe_population.proofs.fills.fill_customers.Goals as goal

pub put_new-requires : goal.put_new-requires
put_new-requires c =
    let key : CustomerKey = customer_in c.args.district (c.loop-before.before + 1) in
    let small : c.loop-before.before < c.args.scale.now.customers = omega arith in
    rw c.number-in-loop-before.ensures (fill_free (λ k. customer_of k.customer)
    (λ k b. is_district c.args.district (district_of_customer k) && b)
    (λ k. and_false (is_district c.args.district (district_of_customer k))) (λ k. k.customer) c.loop-before.before _
    _ (λ k. eq_by_cmp customer_cmp k key) (same_customer c.args.district (c.loop-before.before + 1))
    c.loop-before.invariant _ small c.requires key (is_self customer_total exact_customer key))

pub loop-before-preserved : goal.loop-before-preserved
loop-before-preserved c =
    let key : CustomerKey = customer_in c.args.district (c.loop-before.before + 1) in
    let put = rw c.number-in-loop-before.ensures at
    (c.in_ok-put_new.ensures.rows ∙ ap (insert _ _) c.customer_row.ensures) in
    fill_step (λ k. customer_of k.customer) (λ k b. is_district c.args.district (district_of_customer k) && b)
    (λ k. and_false (is_district c.args.district (district_of_customer k))) (λ k. k.customer) c.loop-before.before _
    _ (λ k. eq_by_cmp customer_cmp k key) (same_customer c.args.district (c.loop-before.before + 1))
    c.loop-before.invariant _ (fills_put (λ k. customer_of k.customer) customer_total exact_customer _ _ key put)
