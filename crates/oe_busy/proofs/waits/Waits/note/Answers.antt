use Rattle.std.proofs.Common.{arith}
use Rattle.oe_busy.proofs.WaitFacts.{waits_more}
use Rattle.oe_busy.proofs.waits.Waits.note.Goals as goal

pub returns : goal.returns
returns c = λ hs h.
    waits_more c.args.self.now c.end.new.since c.begin.new.since c.in-Some.line c.greater-self.result
    c.waited-wait.result c.args.happening.now hs h (omega arith) c.waited-wait.ensures c.greater-self.ensures
    c.end.ensures c.begin.ensures
