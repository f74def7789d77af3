use Rattle.std.proofs.Common.{◌++◌, [], ap, ◌∙◌}
use Rattle.oe_io.proofs.Streaming.{sent_as, sent_then, sent_cut, cut_as, cut_more}
use Rattle.oe_file_serial.specs.Verdicts.{serial_line}
use Rattle.oe_file_serial.proofs.SentFacts.{streamed}
use Rattle.oe_comparison.specs.Texts.{last_line}
use Rattle.oe_comparison.proofs.RunFacts.{streams_behind}
use Rattle.oe_comparison.proofs.runs.write_report.Goals as goal

pub returns-in-Err : goal.returns-in-Err
returns-in-Err g c =
    let old = g.W.Outlet.sink c.args.writer.now in
    let new = g.W.Outlet.sink c.write_verdict.new.writer in
    let told = c.args.report.now in
    let first = serial_line c.args.count in
    cut_more old new [] (first ++ told.text) (last_line told.count)
    (cut_more old new [] first told.text c.in-Err.ensures)

pub returns-in-Err-write_all : goal.returns-in-Err-write_all
returns-in-Err-write_all g c =
    let old = g.W.Outlet.sink c.args.writer.now in
    let mid = g.W.Outlet.sink c.write_verdict.new.writer in
    let new = g.W.Outlet.sink c.write_all.new.to in
    let told = c.args.report.now in
    let first = serial_line c.args.count in
    cut_more old new [] (first ++ told.text) (last_line told.count)
    (sent_cut old mid new [] [] first told.text c.in_default.ensures
    (cut_as mid new [] c.text.result.now told.text c.text.ensures c.in-Err-write_all.ensures))

pub returns : goal.returns
returns g c =
    let old = g.W.Outlet.sink c.args.writer.now in
    let mid = g.W.Outlet.sink c.write_verdict.new.writer in
    let new = g.W.Outlet.sink c.write_all.new.to in
    let told = c.args.report.now in
    let first = serial_line c.args.count in
    streams_behind old new (g.W.Outlet.sink c.flush.new.to) (first ++ told.text) (last_line told.count) c.flush.result
    (sent_then old mid new [] [] [] first told.text c.in_default.ensures
    (sent_as mid new [] [] c.text.result.now told.text c.text.ensures c.in_default-write_all.ensures))
    (streamed new (g.W.Outlet.sink c.flush.new.to) c.last_line.new.out.items c.flush.new.out.items
    (last_line told.count) c.flush.result c.flush.ensures.empty
    (c.last_line.ensures ∙ ap last_line c.count.ensures) c.flush.ensures.stream)
