use Rattle.std.proofs.Common.{◌+◌, ◌<◌, ◌∙◌, ap, refl, arith}
use Rattle.std.specs.Ordering.{eq_by_cmp}
use Rattle.std.specs.FinMap.{insert, empty}
use Rattle.oe_rows.specs.Key.{item_cmp}
use Rattle.oe_rows.proofs.KeyFacts.{item_total, exact_item}
use Rattle.oe_model.specs.Population.{item_of}
use Rattle.oe_model.proofs.MapFacts.{is_self}
use Rattle.oe_population.proofs.FillFacts.{fill_start, fill_step, fill_free, fills_put, free_empty}
use Rattle.oe_population.proofs.KeyTests.{same_item}
use Rattle.oe_rows.specs.declared.keys.ItemKey.{ItemKey}
use Rattle.oe_population.proofs.fills.items.Goals as goal

pub loop-before-init : goal.loop-before-init
loop-before-init c = rw c.new-table.ensures.rows
    (fill_start (λ k. item_of k.item) (λ k b. b) (λ k. refl) (λ k. k.item) empty)

pub put_new-requires : goal.put_new-requires
put_new-requires c =
    let key : ItemKey = record { item = c.loop-before.before + 1 } in
    let small : c.loop-before.before < c.args.scale.now.items = omega arith in
    rw c.number.ensures (fill_free (λ k. item_of k.item) (λ k b. b) (λ k. refl) (λ k. k.item) c.loop-before.before _ _
    (λ k. eq_by_cmp item_cmp k key) (same_item (c.loop-before.before + 1)) c.loop-before.invariant _ small
    (free_empty item_cmp _) key (is_self item_total exact_item key))

pub loop-before-preserved : goal.loop-before-preserved
loop-before-preserved c =
    let key : ItemKey = record { item = c.loop-before.before + 1 } in
    let put = rw c.number.ensures at (c.in_ok-put_new.ensures.rows ∙ ap (insert _ _) c.item_row.ensures) in
    fill_step (λ k. item_of k.item) (λ k b. b) (λ k. refl) (λ k. k.item) c.loop-before.before _ _
    (λ k. eq_by_cmp item_cmp k key) (same_item (c.loop-before.before + 1)) c.loop-before.invariant _
    (fills_put (λ k. item_of k.item) item_total exact_item _ _ key put)
