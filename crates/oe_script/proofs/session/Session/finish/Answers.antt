use Rattle.std.proofs.Common.{◌+◌}
use Rattle.oe_script.specs.Session.{state_of}
use Rattle.oe_script.proofs.HearingFacts.{heard_last, heard_none}
use Rattle.oe_script.proofs.Reaching.{end_cut, end_flush, end_sent}
use Rattle.oe_script.proofs.session.Session.finish.Goals as goal

pub returns-in-Err : goal.returns-in-Err
returns-in-Err g c = λ d input s.
    let was = c.args.self.now in
    end_cut d.begun d.live g.H.Listener.hears d.first c.args.listener.now d.start (g.W.Outlet.sink c.args.to.now)
    (g.W.Outlet.sink c.end_last.new.to) input was.out.items
    (state_of g.M.Machine.world was.core) was.count was.line c.in-Err.ensures s

pub returns-in-Err-flush : goal.returns-in-Err-flush
returns-in-Err-flush g c = λ d input s.
    let was = c.args.self.now in
    end_flush d.begun d.live g.H.Listener.hears d.first c.args.listener.now d.start (g.W.Outlet.sink c.args.to.now)
    (g.W.Outlet.sink c.end_last.new.to) (g.W.Outlet.sink c.flush.new.to)
    input was.out.items c.end_last.new.self.out.items (state_of g.M.Machine.world was.core) was.count was.line
    c.in_default.ensures c.in-Err-flush.ensures.stream s

pub returns-then-is_begun : goal.returns-then-is_begun
returns-then-is_begun g c = λ d input s.
    let was = c.args.self.now in
    end_sent d.begun d.live g.H.Listener.hears d.first c.args.listener.now c.hear.new.self d.start (g.W.Outlet.sink
    c.args.to.now)
    (g.W.Outlet.sink c.end_last.new.to) (g.W.Outlet.sink c.flush.new.to)
    input was.out.items c.end_last.new.self.out.items
    c.flush.new.out.items (state_of g.M.Machine.world was.core) was.count was.line c.flush.ensures.empty
    c.in_default.ensures c.in_default-flush.ensures.stream
    (λ line holds. heard_last g.H.Listener.hears (was.count + 1) line was.line c.args.listener.now
    c.hear.new.self (c.is_begun-is_begun.ensures.some c.if-is_begun.true) holds c.hear.ensures) s

pub returns-else-is_begun : goal.returns-else-is_begun
returns-else-is_begun g c = λ d input s.
    let was = c.args.self.now in
    end_sent d.begun d.live g.H.Listener.hears d.first c.args.listener.now c.args.listener.now d.start (g.W.Outlet.sink
    c.args.to.now)
    (g.W.Outlet.sink c.end_last.new.to) (g.W.Outlet.sink c.flush.new.to)
    input was.out.items c.end_last.new.self.out.items
    c.flush.new.out.items (state_of g.M.Machine.world was.core) was.count was.line c.flush.ensures.empty
    c.in_default.ensures c.in_default-flush.ensures.stream
    (λ line holds. heard_none g.H.Listener.hears (was.count + 1) line was.line c.args.listener.now
    (c.is_begun-is_begun.ensures.none c.if-is_begun.false) holds) s
