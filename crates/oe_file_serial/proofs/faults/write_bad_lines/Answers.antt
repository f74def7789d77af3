use Rattle.std.proofs.Common.{[], ◌-◌, length, ap}
use Rattle.std.specs.List.{flat_map}
use Rattle.oe_io.proofs.Streaming.{cut_as, cut_more}
use Rattle.oe_file_serial.specs.BadTexts.{bad_line_text, more_text}
use Rattle.oe_file_serial.proofs.faults.write_bad_lines.Goals as goal

pub returns-in-Err : goal.returns-in-Err
returns-in-Err g c =
    let old = g.W.Outlet.sink c.args.to.now in
    let new = g.W.Outlet.sink c.write_first.new.to in
    let bad = c.args.bad.now in
    cut_more old new [] (flat_map bad_line_text bad.first.items) (more_text (bad.count - length bad.first.items))
    (cut_as old new [] _ _ (ap (flat_map bad_line_text) c.as_slice-first.ensures.value) c.in-Err.ensures)
