use Rattle.std.proofs.Common.{◌∙◌, ap}
use Rattle.oe_table.specs.Table.{place}
use Rattle.oe_table.specs.Shelf.{whole_list}
use Rattle.oe_table.proofs.TableFacts.{same_rows}
use Rattle.oe_table.proofs.GivenUpFacts.{row_in-left_of}
use Rattle.oe_table.proofs.RangeFacts.{joined-ascends}
use Rattle.oe_table.proofs.TableFacts.{row_in}
use Rattle.oe_table.proofs.SweepFacts.{shelves-swept, joined-swept, place-swept}
use Rattle.oe_table.proofs.shelves.Shelves.sweep.Goals as goal

pub invariant_of-self : goal.invariant_of-self
invariant_of-self g c = rw c.sweep_each.ensures
    (shelves-swept g.K.Ord.cmp g.K.ShelvedKey.shelf_of 0 c.self.inside.shelves.items c.self.invariant)

pub returns-clause-places : goal.returns-clause-places
returns-clause-places g c key =
    let old = c.self.inside.shelves.items in
    rw (← c.self.view_is) (ap (λ t. place g.K.Ord.cmp t key) (ap whole_list c.sweep_each.ensures ∙ joined-swept old)
    ∙ place-swept g.K.Ord.cmp g.met.K.TableKey.exact (whole_list old)
    (joined-ascends g.K.Ord.cmp g.K.ShelvedKey.shelf_of g.met.K.ShelvedKey.ascends 0 old c.self.invariant) key)

pub returns-clause-rows : goal.returns-clause-rows
returns-clause-rows g c = same_rows g.met.K.Ord.total g.met.K.TableKey.exact _ _
    (λ q. ap row_in (returns-clause-places g c q) ∙ row_in-left_of (place g.K.Ord.cmp c.args.self.now q))
