use Rattle.std.proofs.Common.{length}
use Rattle.oe_texts.specs.Dump.{count_line}
use Rattle.oe_dumps.specs.Dump.{row_lines, in_64_bits}
use Rattle.oe_io.proofs.Streaming.{cut_more}
use Rattle.oe_dumps.proofs.dumps.dump_rows.Goals as goal

pub returns-in-Err : goal.returns-in-Err
returns-in-Err g c =
    cut_more (g.W.Outlet.sink c.args.to.now) (g.W.Outlet.sink c.lines.new.to) c.args.out.now.items
    (row_lines g.R.DumpedRow.columns c.args.walk)
    (count_line (in_64_bits (length c.args.walk))) c.in-Err.ensures.stream
