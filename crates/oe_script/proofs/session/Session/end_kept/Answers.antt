use Rattle.std.proofs.Common.{Err, sym}
use Rattle.oe_script.specs.Session.{state_of}
use Rattle.oe_script.proofs.LineFacts.{too_long, replied_bad, live_replied}
use Rattle.oe_script.proofs.HearingFacts.{heard_long}
use Rattle.oe_script.proofs.session.Session.end_kept.Goals as goal

pub returns-in-Err-clause-answer : goal.returns-in-Err-clause-answer
returns-in-Err-clause-answer g c = λ line h.
    let was = c.args.self.now in
    replied_bad {T = Unit {0}} (state_of g.M.Machine.world was.core) was.count line (g.W.Outlet.sink c.args.to.now)
    (g.W.Outlet.sink c.put_bad.new.to) was.out.items c.put_bad.new.out.items (Err c.in-Err.e)
    (too_long (state_of g.M.Machine.world was.core) was.line line (sym c.in_default.ensures.value) h) c.in-Err.ensures

pub returns-in_default-clause-heard : goal.returns-in_default-clause-heard
returns-in_default-clause-heard g c = λ line h.
    let was = c.args.self.now in
    heard_long g.H.Listener.hears (state_of g.M.Machine.world was.core) was.count line was.line c.args.listener.now
    c.hear.new.self
    (sym c.in_default.ensures.value) h c.hear.ensures

pub returns-clause-live : goal.returns-clause-live
returns-clause-live g c =
    let answered = c.answer_whole-answered in
    live_replied (state_of g.M.Machine.world c.args.self.now.core) c.args.self.now.count c.in-Some.line.now
    (state_of g.M.Machine.world answered.new.core) (g.W.Outlet.sink c.args.to.now) (g.W.Outlet.sink answered.new.to)
    c.args.self.now.out.items answered.new.out.items answered.result c.requires.live answered.ensures.answer
