use Rattle.oe_waits.proofs.TextFacts.{cut_first, cut_second}
use Rattle.oe_waits.proofs.shows.show_waits.Goals as goal

pub returns-in-Err : goal.returns-in-Err
returns-in-Err g c = cut_first (g.W.Outlet.sink c.args.to.now) (g.W.Outlet.sink c.all_waiting.new.to)
    c.args.out.now.items
    _ _ _ c.in-Err.ensures.stream

pub returns-in-Err-cycles : goal.returns-in-Err-cycles
returns-in-Err-cycles g c =
    cut_second (g.W.Outlet.sink c.args.to.now) (g.W.Outlet.sink c.all_waiting.new.to) (g.W.Outlet.sink c.cycles.new.to)
    c.args.out.now.items c.all_waiting.new.out.items _ _ _ c.in-Ok.ensures.stream c.in-Err-cycles.ensures
