use Rattle.std.proofs.Common.{◌∙◌, sym, ◌<◌, length, arith}
use Rattle.oe_table.proofs.TakenOutFacts.{none-out, slot-out}
use Rattle.oe_table.proofs.shelf.Shelf.take_out.Goals as goal

pub returns-then-at-slots : goal.returns-then-at-slots
returns-then-at-slots g c =
    sym (none-out g.K.Ord.cmp c.args.self.now c.args.key.now
    (c.position-at.ensures.none (rw (← c.slots.ensures) c.if-at-slots.true)))

pub returns : goal.returns
returns g c =
    let within : c.position-at.result < length c.args.self.now = rw (← c.slots.ensures)
    (omega (arith, c.if-at-slots.false)) in
    c.remove.ensures ∙ slot-out g.met.K.Ord.total g.met.K.TableKey.exact c.args.self.now c.args.key.now
    c.position-at.result c.requires (c.position-at.ensures.stands within)
