use Rattle.oe_requests.specs.declared.steps.Step.TheVariants as step
use Rattle.oe_machine.specs.Steps.{answer_in}
use Rattle.oe_file_serial.proofs.WorkFacts.{purge_keeps}
use Rattle.oe_file_serial.proofs.alone.forget.Goals as goal

pub returns-clause-free : goal.returns-clause-free
returns-clause-free g c = (purge_keeps (g.M.Machine.world c.args.core.now) (g.M.Machine.world c.purge-purged.new.self)
    c.newest.result
    (answer_in (step.Purge c.newest.result) c.purge-purged.result) c.requires c.purge-purged.ensures.carries.0).0

pub returns-clause-same : goal.returns-clause-same
returns-clause-same g c = (purge_keeps (g.M.Machine.world c.args.core.now) (g.M.Machine.world c.purge-purged.new.self)
    c.newest.result
    (answer_in (step.Purge c.newest.result) c.purge-purged.result) c.requires c.purge-purged.ensures.carries.0).1
