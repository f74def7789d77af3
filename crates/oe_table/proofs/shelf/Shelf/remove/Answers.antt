use Rattle.oe_table.proofs.GivenUpFacts.{none-remove}
use Rattle.oe_table.proofs.shelf.Shelf.remove.Goals as goal

pub invariant_of-self : goal.invariant_of-self
invariant_of-self g c =
    rw c.remove.ensures (none-remove c.self.inside.slots c.self.inside.blanked c.passed_without-self-inside.result
    c.args.at c.passed_without-self-inside.ensures.before c.passed_without-self-inside.ensures.after
    c.self.invariant)
