use Rattle.oe_io.proofs.Streaming.{cut_more}
use Rattle.oe_deeds.specs.Files.{asked_text, reply_line}
use Rattle.oe_io.proofs.Streaming.{streams_then}
use Rattle.oe_deeds.proofs.files.put.Goals as goal

pub returns-in-Err : goal.returns-in-Err
returns-in-Err g c =
    cut_more (g.W.Outlet.sink c.args.to.now) (g.W.Outlet.sink c.put_asked.new.to) c.args.out.now.items
    (asked_text c.args.commit.now) (reply_line c.args.commit.now.reply) c.in-Err.ensures

pub returns : goal.returns
returns g c =
    streams_then (g.W.Outlet.sink c.args.to.now) (g.W.Outlet.sink c.put_asked.new.to)
    (g.W.Outlet.sink c.put_reply.new.to) c.args.out.now.items c.put_asked.new.out.items c.put_reply.new.out.items
    (asked_text c.args.commit.now)
    (reply_line c.args.commit.now.reply) c.put_reply.result c.in_default.ensures c.put_reply.ensures
