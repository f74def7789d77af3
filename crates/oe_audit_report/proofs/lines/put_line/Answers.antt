use Rattle.std.proofs.Common.{[]}
use Rattle.oe_io.proofs.Streaming.{cut_more}
use Rattle.oe_audit_report.proofs.lines.put_line.Goals as goal

pub returns-in-Err : goal.returns-in-Err
returns-in-Err g c =
    cut_more (g.W.Outlet.sink c.args.to.now) (g.W.Outlet.sink c.make_room.new.to) c.args.out.now.items []
    (g.L.LineOf.line c.args.by.now c.args.item.now) c.in-Err.ensures.stream
