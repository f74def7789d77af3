use Rattle.std.proofs.Common.{ap}
use Rattle.std.specs.List.{flat_map}
use Rattle.oe_io.proofs.Streaming.{cut_as, sent_as}
use Rattle.oe_audit_report.proofs.StreamFacts.{cut_first, cut_second, streams_third}
use Rattle.oe_file_audit.specs.Faults.{fault_line, more_lines, cause_line}
use Rattle.oe_file_audit.proofs.faults.SourceTextsTextOfFaults.put.Goals as goal

pub returns-in-Err : goal.returns-in-Err
returns-in-Err g c =
    let old = g.W.Outlet.sink c.args.to.now in
    let first = g.W.Outlet.sink c.put_each.new.to in
    let told = c.args.faults.now in
    let side = c.args.self.now.side in
    let lines = flat_map (fault_line side) in
    cut_first old first c.args.out.now.items (lines told.kept) (more_lines side told)
    (cause_line side c.args.self.now.format told.kept)
    (cut_as old first c.args.out.now.items (lines c.kept.result.now) (lines told.kept)
    (ap lines c.kept.ensures) c.in-Err.ensures)

pub returns-in-Err-put_each : goal.returns-in-Err-put_each
returns-in-Err-put_each g c =
    let old = g.W.Outlet.sink c.args.to.now in
    let first = g.W.Outlet.sink c.put_each.new.to in
    let told = c.args.faults.now in
    let side = c.args.self.now.side in
    let lines = flat_map (fault_line side) in
    cut_second old first c.args.out.now.items (lines told.kept) (more_lines side told)
    (cause_line side c.args.self.now.format told.kept) (g.W.Outlet.sink c.put_each-2.new.to) c.put_each.new.out.items
    (sent_as old first c.args.out.now.items c.put_each.new.out.items (lines c.kept.result.now)
    (lines told.kept) (ap lines c.kept.ensures) c.in_default.ensures)
    c.in-Err-put_each.ensures

pub returns : goal.returns
returns g c =
    let old = g.W.Outlet.sink c.args.to.now in
    let first = g.W.Outlet.sink c.put_each.new.to in
    let told = c.args.faults.now in
    let side = c.args.self.now.side in
    let lines = flat_map (fault_line side) in
    streams_third old first c.args.out.now.items (lines told.kept) (more_lines side told)
    (cause_line side c.args.self.now.format told.kept) (g.W.Outlet.sink c.put_each-2.new.to) c.put_each.new.out.items
    (sent_as old first c.args.out.now.items c.put_each.new.out.items (lines c.kept.result.now)
    (lines told.kept) (ap lines c.kept.ensures) c.in_default.ensures)
    (g.W.Outlet.sink c.put_line.new.to) c.put_each-2.new.out.items c.put_line.new.out.items c.put_line.result
    c.in_default-put_each.ensures c.put_line.ensures
