use Rattle.std.proofs.Common.{◌∙◌, sym, []}
use Rattle.oe_table.proofs.ShelvesFacts.{past-shelves, slot-on_shelf, shelf-ascends}
use Rattle.oe_table.proofs.shelves.Shelves.slot.Goals as goal

pub returns-in-None : goal.returns-in-None
returns-in-None g c =
    rw (← c.self.view_is)
    (sym (past-shelves g.K.Ord.cmp g.K.ShelvedKey.shelf_of g.met.K.TableKey.exact c.self.inside.shelves.items
    c.args.key.now c.self.invariant
    (rw (← c.shelf-number.ensures.number, ← c.deref.ensures.value) c.in-None.ensures.lookup.3)))

pub slot-requires : goal.slot-requires
slot-requires g c =
    rw (c.in-Some.ensures.lookup.3.1 [], c.deref.ensures.value)
    (shelf-ascends g.K.Ord.cmp g.K.ShelvedKey.shelf_of 0 c.self.inside.shelves.items c.shelf-number.result
    c.self.invariant)

pub returns-in-Some : goal.returns-in-Some
returns-in-Some g c =
    rw (← c.self.view_is)
    (c.slot.ensures ∙ slot-on_shelf g.K.Ord.cmp g.K.ShelvedKey.shelf_of g.met.K.TableKey.exact
    c.self.inside.shelves.items c.in-Some.shelf.now c.args.key.now c.self.invariant
    (rw (← c.shelf-number.ensures.number, ← c.deref.ensures.value) c.in-Some.ensures.lookup.3.1))
