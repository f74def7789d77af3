use Rattle.std.proofs.Common.{◌+◌}
use Rattle.oe_script.specs.Session.{state_of}
use Rattle.oe_script.proofs.LineFacts.{live_replied}
use Rattle.oe_script.proofs.session.Session.end_line.Goals as goal

pub returns-clause-live : goal.returns-clause-live
returns-clause-live g c =
    let answered = c.answer_whole in
    live_replied (state_of g.M.Machine.world c.args.self.now.core) (c.args.self.now.count + 1) c.args.last.now
    (state_of g.M.Machine.world answered.new.core) (g.W.Outlet.sink c.args.to.now) (g.W.Outlet.sink answered.new.to)
    c.args.self.now.out.items answered.new.out.items answered.result c.requires.live answered.ensures.answer
