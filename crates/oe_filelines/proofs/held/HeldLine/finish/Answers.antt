use Rattle.std.proofs.lemmas.Result.{on_ok_weaker}
use Rattle.oe_filelines.proofs.LineFacts.{finished_none, finished_line}
use Rattle.oe_filelines.proofs.held.HeldLine.finish.Goals as goal

pub returns-then-is_begun : goal.returns-then-is_begun
returns-then-is_begun g c = on_ok_weaker c.end.result
    (λ t start input s.
    finished_line g.row.LONGEST (g.T.LineTaker.taken start) input c.args.self.now c.args.taker.now c.end.new.taker
    (c.is_begun.ensures.some c.if-is_begun.true) (λ line h. t line h start) s)
    c.end.ensures.taken

pub returns : goal.returns
returns g c = λ start input s.
    finished_none g.row.LONGEST (g.T.LineTaker.taken start) input c.args.self.now c.args.taker.now
    (c.is_begun.ensures.none c.if-is_begun.false) s
