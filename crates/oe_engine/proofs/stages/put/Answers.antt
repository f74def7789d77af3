use Rattle.oe_writes.specs.Asks.{ask_of_write}
use Rattle.oe_engine.proofs.StageFacts.{does_write}
use Rattle.oe_engine.proofs.stages.put.Goals as goal

pub returns-clause-does : goal.returns-clause-does
returns-clause-does g c =
    does_write c.args.engine.now c.change.new.self c.args.tx.now (ask_of_write (g.W.OneWrite.write c.args.write.now))
    (g.W.OneWrite.write c.args.write.now) c.change.result c.change.ensures.writes c.change.ensures.name
