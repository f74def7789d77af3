use Rattle.std.proofs.Common.{subst}
use Rattle.std.specs.Prelude.{codes}
use Rattle.oe_io.specs.Ports.{Streams}
use Rattle.oe_audit_report.specs.Report.{counts_of}
use Rattle.oe_audit_report.specs.Json.{listing, rows_member, check_json, counts_tail, report_json}
use Rattle.oe_audit_report.proofs.StreamFacts.{cut_first, cut_second, streams_third}
use Rattle.oe_audit_report.proofs.json.put_json.Goals as goal

pub returns-in-Err : goal.returns-in-Err
unfolding report_json
returns-in-Err g c =
    cut_first (g.W.Outlet.sink c.args.to.now) (g.W.Outlet.sink c.put_listing.new.to) c.args.out.now.items
    (listing rows_member (codes "{\"read\":{") c.args.rows.now (codes "},"))
    (listing (check_json c.args.first) (codes "\"checks\":[") c.args.checks.now (codes "]"))
    (counts_tail (counts_of c.args.checks.now)) c.in-Err.ensures

pub returns-in-Err-put_listing : goal.returns-in-Err-put_listing
unfolding report_json
returns-in-Err-put_listing g c =
    cut_second (g.W.Outlet.sink c.args.to.now) (g.W.Outlet.sink c.put_listing.new.to) c.args.out.now.items
    (listing rows_member (codes "{\"read\":{") c.args.rows.now (codes "},"))
    (listing (check_json c.args.first) (codes "\"checks\":[") c.args.checks.now (codes "]"))
    (counts_tail (counts_of c.args.checks.now)) (g.W.Outlet.sink c.put_listing-2.new.to)
    c.put_listing.new.out.items c.in_default.ensures c.in-Err-put_listing.ensures

pub returns : goal.returns
unfolding report_json
returns g c =
    let second = g.W.Outlet.sink c.put_listing-2.new.to in
    let new = g.W.Outlet.sink c.put_line.new.to in
    streams_third (g.W.Outlet.sink c.args.to.now) (g.W.Outlet.sink c.put_listing.new.to) c.args.out.now.items
    (listing rows_member (codes "{\"read\":{") c.args.rows.now (codes "},"))
    (listing (check_json c.args.first) (codes "\"checks\":[") c.args.checks.now (codes "]"))
    (counts_tail (counts_of c.args.checks.now)) second
    c.put_listing.new.out.items c.in_default.ensures new
    c.put_listing-2.new.out.items c.put_line.new.out.items c.put_line.result c.in_default-put_listing.ensures
    (subst (λ n. Streams second c.put_listing-2.new.out.items new c.put_line.new.out.items (counts_tail n)
    c.put_line.result) c.counted.ensures.is c.put_line.ensures)
