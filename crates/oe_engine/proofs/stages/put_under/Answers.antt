use Rattle.oe_theory.specs.Machine.{Take}
use Rattle.oe_model.specs.Locks.{mode_of}
use Rattle.oe_engine.proofs.StageFacts.{does_write}
use Rattle.oe_engine.proofs.stages.put_under.Goals as goal

pub returns-clause-does : goal.returns-clause-does
returns-clause-does g c =
    does_write c.args.engine.now c.change_under.new.self c.args.tx.now
    (Take c.args.lock.now.name (mode_of c.args.lock.now.mode))
    (g.W.OneWrite.write c.args.write.now) c.change_under.result c.change_under.ensures.writes
    c.change_under.ensures.name
