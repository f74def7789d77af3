use Rattle.oe_script.proofs.LineFacts.{answer_of}
use Rattle.oe_script.proofs.outcome.tell_next.Goals as goal

pub tell_advanced-requires-clause-answer : goal.tell_advanced-requires-clause-answer
tell_advanced-requires-clause-answer g c =
    let a = answer_of (g.M.Machine.world c.args.core.now) (g.M.Machine.world c.advance-ended.new.self) c.args.terminal
    c.advance-ended.result (g.M.Machine.last c.advance-ended.new.self c.args.terminal)
    c.advance-ended.ensures.advances in
    (a.0, a.1)

pub returns : goal.returns
returns g c =
    let a = answer_of (g.M.Machine.world c.args.core.now) (g.M.Machine.world c.advance-ended.new.self) c.args.terminal
    c.advance-ended.result (g.M.Machine.last c.advance-ended.new.self c.args.terminal)
    c.advance-ended.ensures.advances in
    (a.0, a.2, c.tell_advanced.ensures a.0 a.1)
