use Rattle.std.proofs.Common.{◌+◌, ◌<◌, ap, refl, arith}
use Rattle.std.specs.Prelude.{◌&&◌}
use Rattle.oe_model.specs.Keys.{district_of_order, order_of_line, order_in}
use Rattle.oe_model.specs.Population.{counts_to, line_of, lines_of}
use Rattle.oe_population.specs.Group.{is_district, lines_under}
use Rattle.oe_population.proofs.FillFacts.{and_false, fill_step, fill_free}
use Rattle.oe_population.proofs.fills.fill_lines.Goals as goal

pub fill_order_lines-requires : goal.fill_order_lines-requires
fill_order_lines-requires c =
    let small : c.loop-before.before < c.args.scale.now.customers = omega arith in
    rw c.number-in-loop-before.ensures (fill_free (line_of c.args.scale.now)
    (λ k b. (is_district c.args.district (district_of_order (order_of_line k)) && b) && counts_to (lines_of k.order)
    k.number) (λ k. ap (λ b. b && counts_to (lines_of k.order) k.number)
    (and_false (is_district c.args.district (district_of_order (order_of_line k))))) (λ k. k.order)
    c.loop-before.before _ _ (lines_under (order_in c.args.district (c.loop-before.before + 1))) (λ k. refl)
    c.loop-before.invariant _ small c.requires)

pub loop-before-preserved : goal.loop-before-preserved
loop-before-preserved c =
    fill_step (line_of c.args.scale.now)
    (λ k b. (is_district c.args.district (district_of_order (order_of_line k)) && b) && counts_to (lines_of k.order)
    k.number) (λ k. ap (λ b. b && counts_to (lines_of k.order) k.number)
    (and_false (is_district c.args.district (district_of_order (order_of_line k))))) (λ k. k.order)
    c.loop-before.before _ _ (lines_under (order_in c.args.district (c.loop-before.before + 1))) (λ k. refl)
    c.loop-before.invariant _ (rw c.number-in-loop-before.ensures at c.in_ok-fill_order_lines.ensures)
