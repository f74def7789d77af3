use Rattle.oe_load.specs.Turns.{counts_of}
use Rattle.oe_load.proofs.LoadFacts.{tells_purge}
use Rattle.oe_load.proofs.turns.purge.Goals as goal

pub returns-in-Purged : goal.returns-in-Purged
returns-in-Purged g c = λ k does.
    tells_purge c.args.plan.now (g.M.Machine.world c.args.core.now) (counts_of c.args.served.now)
    (g.M.Machine.world c.purge.new.self)
    c.args.out.now.items c.purge_line.new.out.items k _ c.newest.result does c.newest.ensures
    c.in-Purged.ensures.carries.0
    c.purge_line.ensures.items c.purge_line.ensures.len
