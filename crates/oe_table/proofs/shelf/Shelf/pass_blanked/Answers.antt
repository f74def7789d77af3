use Rattle.oe_table.proofs.shelf.Shelf.pass_blanked.Goals as goal

pub invariant_of-self : goal.invariant_of-self
invariant_of-self g c = rw c.self.view_is c.front-self-inside.ensures
