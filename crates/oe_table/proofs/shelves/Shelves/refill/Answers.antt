use Rattle.std.proofs.Common.{refl, Some}
use Rattle.oe_table.proofs.TableFacts.{rows_of-set_place}
use Rattle.oe_table.proofs.ShelvesFacts.{sets_place-written}
use Rattle.oe_table.proofs.shelves.Shelves.refill.Goals as goal

pub returns-clause-places : goal.returns-clause-places
returns-clause-places g c =
    sets_place-written g.met.K.Ord.total c.args.self.now (c.slot_mut.follows.lender (Some c.args.row)) c.args.key.now
    (Some c.args.row) (Some c.args.row) (c.slot_mut.follows.holds (Some c.args.row)) refl (rw c.requires refl)

pub returns-clause-rows : goal.returns-clause-rows
returns-clause-rows g c = rows_of-set_place g.met.K.Ord.total g.met.K.TableKey.exact c.args.self.now
    (c.slot_mut.follows.lender (Some c.args.row)) c.args.key.now (Some c.args.row) (returns-clause-places g c)
