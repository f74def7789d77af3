use Rattle.std.proofs.Common.{[]}
use Rattle.oe_io.proofs.Streaming.{cut_more, sent_then, sent_waits}
use Rattle.oe_deeds.specs.Files.{reply_line}
use Rattle.oe_deeds.proofs.files.put_reply.Goals as goal

pub returns-in-Err : goal.returns-in-Err
returns-in-Err g c = cut_more (g.W.Outlet.sink c.args.to.now) (g.W.Outlet.sink c.make_room.new.to) c.args.out.now.items
    [] (reply_line c.args.commit.now.reply) c.in-Err.ensures.stream

pub returns : goal.returns
returns g c =
    let new = g.W.Outlet.sink c.make_room.new.to in
    let room = c.make_room.new.out.items in
    let text = reply_line c.args.commit.now.reply in
    sent_then (g.W.Outlet.sink c.args.to.now) new new c.args.out.now.items room c.reply_line.new.out.items [] text
    c.in_default.ensures.stream (sent_waits new room c.reply_line.new.out.items text c.reply_line.ensures)
