use Rattle.std.proofs.Common.{◌++◌}
use Rattle.oe_script.specs.Session.{state_of}
use Rattle.oe_script.proofs.Reaching.{stand_flush}
use Rattle.oe_script.proofs.session.Session.answer.Goals as goal

pub returns-clause-fed : goal.returns-clause-fed
returns-clause-fed g c = λ d input s.
    let fed = c.feed.new.self in
    stand_flush d.begun d.live g.H.Listener.hears d.first c.feed.new.listener d.start (g.W.Outlet.sink c.feed.new.to)
    (g.W.Outlet.sink c.flush.new.to) (input ++ c.args.piece.now) fed.out.items c.flush.new.out.items
    (state_of g.M.Machine.world fed.core) fed.count fed.line c.flush.result c.flush.ensures.stream
    (c.in_default.ensures.fed d input s)
