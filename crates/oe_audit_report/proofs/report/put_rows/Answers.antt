use Rattle.std.specs.List.{flat_map}
use Rattle.std.specs.Prelude.{codes}
use Rattle.oe_audit_report.specs.Report.{rows_text}
use Rattle.oe_audit_report.proofs.StreamFacts.{cut_first, cut_second, streams_third}
use Rattle.oe_audit_report.proofs.report.put_rows.Goals as goal

pub returns-in-Err : goal.returns-in-Err
returns-in-Err g c =
    cut_first (g.W.Outlet.sink c.args.to.now) (g.W.Outlet.sink c.put.new.to) c.args.out.now.items (codes "read")
    (flat_map rows_text c.args.rows.now) (codes "\n") c.in-Err.ensures

pub returns-in-Err-put_each : goal.returns-in-Err-put_each
returns-in-Err-put_each g c =
    cut_second (g.W.Outlet.sink c.args.to.now) (g.W.Outlet.sink c.put.new.to) c.args.out.now.items (codes "read")
    (flat_map rows_text c.args.rows.now) (codes "\n") (g.W.Outlet.sink c.put_each.new.to) c.put.new.out.items
    c.in_default.ensures c.in-Err-put_each.ensures

pub returns : goal.returns
returns g c =
    streams_third (g.W.Outlet.sink c.args.to.now) (g.W.Outlet.sink c.put.new.to) c.args.out.now.items (codes "read")
    (flat_map rows_text c.args.rows.now) (codes "\n") (g.W.Outlet.sink c.put_each.new.to) c.put.new.out.items
    c.in_default.ensures (g.W.Outlet.sink c.put-2.new.to) c.put_each.new.out.items c.put-2.new.out.items
    c.put-2.result c.in_default-put_each.ensures c.put-2.ensures
