use Rattle.std.proofs.Common.{ap, sym, ◌∙◌}
use Rattle.oe_table.specs.Table.{live}
use Rattle.oe_table.proofs.WalkFacts.{entries-rows_of, live_sorted}
use Rattle.oe_table.proofs.shelves.Shelves.iter.Goals as goal

pub returns-clause-rows : goal.returns-clause-rows
returns-clause-rows g c = ap live c.all_slots-slots.ensures.places
    ∙ sym (entries-rows_of g.K.Ord.cmp g.met.K.Ord.total g.met.K.TableKey.exact c.args.self.now
    c.all_slots-slots.ensures.ordered)

pub returns-clause-ordered : goal.returns-clause-ordered
returns-clause-ordered g c = rw c.all_slots-slots.ensures.places
    (live_sorted g.K.Ord.cmp c.args.self.now c.all_slots-slots.ensures.ordered)
