use Rattle.oe_theory.specs.Machine.{Plain}
use Rattle.oe_engine.proofs.StageFacts.{does_write}
use Rattle.oe_engine.proofs.stages.put_held.Goals as goal

pub returns-clause-does : goal.returns-clause-does
returns-clause-does g c =
    does_write c.args.engine.now c.change_held.new.self c.args.tx.now Plain
    (g.W.OneWrite.write c.args.write.now) c.change_held.result c.change_held.ensures.writes c.change_held.ensures.name
