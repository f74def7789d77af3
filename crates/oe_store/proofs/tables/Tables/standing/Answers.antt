use Rattle.oe_model.specs.Choice.{comes_before}
use Rattle.oe_store.specs.contracts.tables.Tables.{the_view}
use Rattle.oe_store.proofs.ChoiceFacts.{met, count_starts, rank_starts, few_named, few_before}
use Rattle.oe_store.proofs.tables.Tables.standing.Goals as goal

pub loop-key-init : goal.loop-key-init
loop-key-init c =
    let all = met c.args.district.now c.args.last.now c.into_iter-key-iterator.ensures.into_iter_gives
    (rw (← c.self.view_is) at c.namesakes_of-key-items.ensures) in
    rw (← c.self.view_is) (
      count_starts c.args.district.now c.args.last.now _ _ all,
      rank_starts c.args.district.now c.args.last.now _ _ all (λ y. comes_before y (c.args.first.now, c.args.own)),
      few_named c.args.district.now c.args.last.now (the_view c.self.inside) c.self.invariant,
      few_before c.args.district.now c.args.last.now (the_view c.self.inside)
          (λ y. comes_before y (c.args.first.now, c.args.own))
          c.self.invariant,
    )
