use Rattle.oe_busy.proofs.MetFacts.{on_ok}
use Rattle.oe_busy.proofs.TableFacts.{counted_more}
use Rattle.oe_busy.proofs.tables.Busyness.note.Goals as goal

pub returns : goal.returns
returns c = λ hs h.
    on_ok c.note-2.result
    (counted_more c.args.self.now
    (record { counts = c.count.new.counts; names = c.note-2.new.self; waits = c.note.new.self })
    c.args.happening.now hs h c.in_default.ensures (c.in_default-note.ensures hs h.waits_are))
    c.note-2.ensures
