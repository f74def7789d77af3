use Rattle.std.proofs.Common.{ap}
use Rattle.std.specs.List.{flat_map}
use Rattle.oe_io.proofs.Streaming.{cut_more, cut_as, sent_as}
use Rattle.oe_audit_report.specs.Report.{part_text, holds_line}
use Rattle.oe_io.proofs.Streaming.{streams_then}
use Rattle.oe_audit_report.proofs.report.CheckTextsTextOfCheckFound.put.Goals as goal

pub returns-in-Ok : goal.returns-in-Ok
returns-in-Ok g c =
    let old = g.W.Outlet.sink c.args.to.now in
    let mid = g.W.Outlet.sink c.put_each.new.to in
    let check = c.args.check.now in
    let part = part_text c.args.self.now.first check.check in
    streams_then old mid (g.W.Outlet.sink c.put_line.new.to) c.args.out.now.items c.put_each.new.out.items
    c.put_line.new.out.items (flat_map part check.parts.items) (holds_line check) c.put_line.result
    (sent_as old mid c.args.out.now.items c.put_each.new.out.items (flat_map part c.as_slice.result.now)
    (flat_map part check.parts.items) (ap (flat_map part) c.as_slice.ensures.value) c.in-Ok.ensures)
    c.put_line.ensures

pub returns-in-Err : goal.returns-in-Err
returns-in-Err g c =
    let old = g.W.Outlet.sink c.args.to.now in
    let mid = g.W.Outlet.sink c.put_each.new.to in
    let check = c.args.check.now in
    let part = part_text c.args.self.now.first check.check in
    cut_more old mid c.args.out.now.items (flat_map part check.parts.items) (holds_line check)
    (cut_as old mid c.args.out.now.items (flat_map part c.as_slice.result.now) (flat_map part check.parts.items)
    (ap (flat_map part) c.as_slice.ensures.value) c.in-Err.ensures)
