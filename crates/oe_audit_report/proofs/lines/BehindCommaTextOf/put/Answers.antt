use Rattle.std.specs.Prelude.{codes}
use Rattle.oe_io.proofs.Streaming.{cut_more}
use Rattle.oe_io.proofs.Streaming.{streams_then}
use Rattle.oe_audit_report.proofs.lines.BehindCommaTextOf.put.Goals as goal

pub returns-in-Ok : goal.returns-in-Ok
returns-in-Ok g c =
    streams_then (g.W.Outlet.sink c.args.to.now) (g.W.Outlet.sink c.put.new.to) (g.W.Outlet.sink c.put-in-Ok.new.to)
    c.args.out.now.items c.put.new.out.items c.put-in-Ok.new.out.items (codes ",")
    (g.T.TextOf.text c.args.self.now.of.now c.args.item.now) c.put-in-Ok.result c.in-Ok.ensures c.put-in-Ok.ensures

pub returns-in-Err : goal.returns-in-Err
returns-in-Err g c =
    cut_more (g.W.Outlet.sink c.args.to.now) (g.W.Outlet.sink c.put.new.to) c.args.out.now.items (codes ",")
    (g.T.TextOf.text c.args.self.now.of.now c.args.item.now) c.in-Err.ensures
