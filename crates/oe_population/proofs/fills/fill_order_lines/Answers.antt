use Rattle.std.proofs.Common.{◌≡◌, ◌+◌, ◌<◌, ◌∙◌, ap, arith}
use Rattle.std.specs.Prelude.{◌&&◌}
use Rattle.std.specs.Ordering.{eq_by_cmp}
use Rattle.std.specs.FinMap.{insert}
use Rattle.oe_rows.specs.Key.{order_line_cmp}
use Rattle.oe_rows.proofs.KeyFacts.{order_line_total, exact_order_line}
use Rattle.oe_model.specs.Keys.{order_of_line, line_in}
use Rattle.oe_model.specs.Population.{counts_to, line_of, lines_of}
use Rattle.oe_model.proofs.MapFacts.{is_self}
use Rattle.oe_population.specs.Group.{is_order}
use Rattle.oe_population.proofs.FillFacts.{and_false, fill_step, fill_free, fills_put, fills_by}
use Rattle.oe_population.proofs.KeyTests.{same_line, same_lines}
use Rattle.oe_rows.specs.declared.keys.OrderLineKey.{OrderLineKey}
use Rattle.oe_population.proofs.fills.fill_order_lines.Goals as goal

pub put_new-requires : goal.put_new-requires
put_new-requires c =
    let key : OrderLineKey = line_in c.args.order (c.loop-before.before + 1) in
    let small : c.loop-before.before < lines_of c.args.order.order = omega arith in
    rw c.number.ensures (fill_free (line_of c.args.scale.now) (λ k b. is_order c.args.order (order_of_line k) && b)
    (λ k. and_false (is_order c.args.order (order_of_line k))) (λ k. k.number) c.loop-before.before _ _
    (λ k. eq_by_cmp order_line_cmp k key) (same_line c.args.order (c.loop-before.before + 1))
    c.loop-before.invariant _ small (λ k e. c.requires k (same_lines c.args.order k ∙ e)) key
    (is_self order_line_total exact_order_line key))

pub loop-before-preserved : goal.loop-before-preserved
loop-before-preserved c =
    let key : OrderLineKey = line_in c.args.order (c.loop-before.before + 1) in
    let put = rw c.number.ensures at (c.in_ok-put_new.ensures.rows ∙ ap (insert _ _) c.line_row.ensures) in
    fill_step (line_of c.args.scale.now) (λ k b. is_order c.args.order (order_of_line k) && b)
    (λ k. and_false (is_order c.args.order (order_of_line k))) (λ k. k.number) c.loop-before.before _ _
    (λ k. eq_by_cmp order_line_cmp k key) (same_line c.args.order (c.loop-before.before + 1))
    c.loop-before.invariant _ (fills_put (line_of c.args.scale.now) order_line_total exact_order_line _ _ key put)

pub returns : goal.returns
returns c =
    let all : c.loop-before.before ≡ lines_of c.args.order.order = omega arith in
    fills_by (line_of c.args.scale.now)
    (λ k. is_order c.args.order (order_of_line k) && counts_to (lines_of c.args.order.order) (k.number)) _ _ _
    (λ k. same_lines c.args.order k) (rw all at c.loop-before.invariant)
