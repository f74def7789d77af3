use Rattle.std.proofs.Common.{[]}
use Rattle.oe_io.proofs.Streaming.{cut_more}
use Rattle.oe_comparison.specs.Faults.{fault_line}
use Rattle.oe_comparison.proofs.faults.put_fault.Goals as goal

pub returns-in-Err : goal.returns-in-Err
returns-in-Err g c = cut_more (g.W.Outlet.sink c.args.to.now) (g.W.Outlet.sink c.make_room.new.to) c.args.out.now.items
    [] (fault_line c.args.fault.now) c.in-Err.ensures.stream
