use Rattle.std.proofs.Common.{◌<◌, arith}
use Rattle.std.specs.Ordering.{eq_by_cmp}
use Rattle.std.proofs.lemmas.Result.{on_ok_weaker}
use Rattle.oe_rows.specs.Key.{new_order_cmp}
use Rattle.oe_rows.proofs.KeyFacts.{new_order_total, exact_new_order}
use Rattle.oe_model.specs.Population.{last_delivered}
use Rattle.oe_population.specs.Group.{no_columns, is_new_order}
use Rattle.oe_population.proofs.FillFacts.{fills_put, fills_by}
use Rattle.oe_population.proofs.HistoryTests.{same_undelivered}
use Rattle.oe_population.proofs.fills.put_undelivered.Goals as goal

pub returns : goal.returns
returns c =
    let s = c.args.scale.now in
    let late : last_delivered s < c.args.key.order = omega arith in
    on_ok_weaker c.put_new.result
    (λ e. fills_by (λ k. no_columns) (λ k. eq_by_cmp new_order_cmp k c.args.key) (is_new_order s c.args.key) _ _
    (λ k. same_undelivered s c.args.key k late)
    (fills_put (λ k. no_columns) new_order_total exact_new_order _ _ c.args.key e))
    c.put_new.ensures.rows
