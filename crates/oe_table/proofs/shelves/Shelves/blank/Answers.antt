use Rattle.std.proofs.Common.{None}
use Rattle.oe_table.proofs.TableFacts.{has_row, rows_of-set_place}
use Rattle.oe_table.proofs.ShelvesFacts.{has_place, sets_place-written}
use Rattle.oe_table.proofs.shelves.Shelves.blank.Goals as goal

pub returns-clause-places : goal.returns-clause-places
returns-clause-places g c =
    rw c.pass_blanked.ensures
    (sets_place-written g.met.K.Ord.total c.args.self.now (c.slot_mut.follows.lender c.take.new.self) c.args.key.now
    c.take.new.self None (c.slot_mut.follows.holds c.take.new.self) c.take.ensures.after
    (has_place _ (has_row g.met.K.Ord.total c.args.self.now c.args.key.now c.requires)))

pub returns-clause-rows : goal.returns-clause-rows
returns-clause-rows g c = rows_of-set_place g.met.K.Ord.total g.met.K.TableKey.exact c.args.self.now
    c.pass_blanked.new.self c.args.key.now None (returns-clause-places g c)
