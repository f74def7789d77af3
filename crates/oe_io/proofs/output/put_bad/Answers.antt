use Rattle.std.proofs.Common.{[]}
use Rattle.oe_io.specs.Lines.{bad_line}
use Rattle.oe_io.proofs.Streaming.{cut_more}
use Rattle.oe_io.proofs.output.put_bad.Goals as goal

pub returns-in-Err : goal.returns-in-Err
returns-in-Err g c = cut_more (g.W.Outlet.sink c.args.to.now) (g.W.Outlet.sink c.make_room.new.to) c.args.out.now.items
    [] (bad_line c.args.number) c.in-Err.ensures.stream
