use Rattle.std.specs.List.{flat_map}
use Rattle.oe_audit_report.specs.Report.{read_line, check_text, last_line, report_text}
use Rattle.oe_audit_report.proofs.StreamFacts.{cut_first, cut_second, streams_third}
use Rattle.oe_audit_report.proofs.report.put_report.Goals as goal

pub returns-in-Err : goal.returns-in-Err
unfolding report_text
returns-in-Err g c =
    cut_first (g.W.Outlet.sink c.args.to.now) (g.W.Outlet.sink c.put_rows.new.to) c.args.out.now.items
    (read_line c.args.rows.now) (flat_map (check_text c.args.first) c.args.checks.now) (last_line c.args.checks.now)
    c.in-Err.ensures

pub returns-in-Err-put_each : goal.returns-in-Err-put_each
unfolding report_text
returns-in-Err-put_each g c =
    cut_second (g.W.Outlet.sink c.args.to.now) (g.W.Outlet.sink c.put_rows.new.to) c.args.out.now.items
    (read_line c.args.rows.now) (flat_map (check_text c.args.first) c.args.checks.now) (last_line c.args.checks.now)
    (g.W.Outlet.sink c.put_each.new.to) c.put_rows.new.out.items c.in_default.ensures c.in-Err-put_each.ensures

pub returns : goal.returns
unfolding report_text
returns g c =
    streams_third (g.W.Outlet.sink c.args.to.now) (g.W.Outlet.sink c.put_rows.new.to) c.args.out.now.items
    (read_line c.args.rows.now) (flat_map (check_text c.args.first) c.args.checks.now) (last_line c.args.checks.now)
    (g.W.Outlet.sink c.put_each.new.to) c.put_rows.new.out.items c.in_default.ensures
    (g.W.Outlet.sink c.put_last.new.to) c.put_each.new.out.items c.put_last.new.out.items c.put_last.result
    c.in_default-put_each.ensures c.put_last.ensures
