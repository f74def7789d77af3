use Rattle.std.proofs.Common.{Some}
use Rattle.oe_table.proofs.PassedFacts.{none-insert}
use Rattle.oe_table.proofs.shelf.Shelf.put_new.Goals as goal

pub invariant_of-self-2 : goal.invariant_of-self-2
invariant_of-self-2 g c =
    rw c.in_default.ensures.ok
    (none-insert c.self.inside.slots c.self.inside.blanked c.min-self-inside.result c.args.at
    (c.args.key, Some c.args.row) c.min-self-inside.ensures (rw c.self.view_is c.requires) c.self.invariant)
