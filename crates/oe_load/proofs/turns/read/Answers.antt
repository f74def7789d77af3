use Rattle.oe_load.specs.Turns.{counts_of}
use Rattle.oe_load.proofs.LoadFacts.{asks_reply}
use Rattle.oe_load.proofs.turns.read.Goals as goal

pub serve-requires : goal.serve-requires
serve-requires g c = c.requires.left

pub returns-in-Replied : goal.returns-in-Replied
returns-in-Replied g c =
    asks_reply c.args.plan.now (g.M.Machine.world c.args.core.now) (counts_of c.args.served.now)
    (g.M.Machine.world c.args.core.now)
    c.args.out.now.items c.read_line.new.out.items c.args.terminal c.args.query.now _
    (counts_of c.serve.new.served) c.newest.result c.requires.form c.requires.next c.newest.ensures
    c.in-Replied.ensures.0 c.serve.ensures c.read_line.ensures.items c.read_line.ensures.len
