use Rattle.std.proofs.Common.{◌+◌, ◌∙◌, ap, ◌++◌, ◌∷◌, []}
use Rattle.oe_table.proofs.ShelvesFacts.{padded-more}
use Rattle.oe_index.proofs.lists.reach.Goals as goal

pub loop-alloc-preserved : goal.loop-alloc-preserved
loop-alloc-preserved g c =
    let n = c.loop-alloc.invariant.0 in (
      n + 1,
      padded-more c.args.lists.now.items c.loop-alloc.lists.items c.push.new.self.items n
          c.loop-alloc.invariant.1
          (c.in_default.ensures.items ∙ ap (λ s. c.loop-alloc.lists.items ++ s ∷ []) c.empty-list.ensures),
    )
