use Rattle.std.proofs.Common.{[]}
use Rattle.oe_texts.specs.Dump.{count_line}
use Rattle.oe_io.proofs.Streaming.{cut_more}
use Rattle.oe_dumps.proofs.dumps.total.Goals as goal

pub returns-in-Err : goal.returns-in-Err
returns-in-Err g c = cut_more (g.W.Outlet.sink c.args.to.now) (g.W.Outlet.sink c.make_room.new.to) c.args.out.now.items
    [] (count_line c.args.count) c.in-Err.ensures.stream
