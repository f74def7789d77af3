use Rattle.std.proofs.Common.{[]}
use Rattle.oe_io.proofs.Streaming.{cut_more}
use Rattle.oe_deeds.specs.Files.{asked_text}
use Rattle.oe_deeds.proofs.files.put_asked.Goals as goal

pub returns-in-Err : goal.returns-in-Err
returns-in-Err g c = cut_more (g.W.Outlet.sink c.args.to.now) (g.W.Outlet.sink c.make_room.new.to) c.args.out.now.items
    [] (asked_text c.args.commit.now) c.in-Err.ensures.stream
