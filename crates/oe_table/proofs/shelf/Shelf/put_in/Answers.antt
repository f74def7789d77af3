use Rattle.std.proofs.Common.{Some}
use Rattle.oe_table.proofs.ShelfFacts.{put-answer}
use Rattle.oe_table.proofs.PassedFacts.{none-set}
use Rattle.oe_table.proofs.shelf.Shelf.put_in.Goals as goal

pub invariant_of-self : goal.invariant_of-self
invariant_of-self g c = none-set c.self.inside.slots c.self.inside.blanked c.min-self-inside.result c.in-Ok.at _
    c.min-self-inside.ensures c.self.invariant

pub returns-in-Ok-clause-ok : goal.returns-in-Ok-clause-ok
returns-in-Ok-clause-ok g c =
    rw (← c.self.view_is)
    (put-answer g.K.Ord.cmp g.met.K.Ord.total c.self.inside.slots c.item_mut.result.now c.args.key c.in-Ok.at
    (Some c.args.row) (rw c.self.view_is c.requires) (rw c.self.view_is c.in-Ok.ensures) c.item_mut.ensures.value)
