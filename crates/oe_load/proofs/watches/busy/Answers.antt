use Rattle.oe_load.specs.Scripts.{first_state}
use Rattle.oe_load.proofs.BusyFacts.{tabled, untold, watched_opened}
use Rattle.oe_load.proofs.watches.busy.Goals as goal

pub returns-in-Ok-answer : goal.returns-in-Ok-answer
returns-in-Ok-answer g c = λ start.
    tabled c.args.plan.now c.args.origin start c.watched-answer.new.busyness _ _ c.watched-answer.result
    c.in-Ok-answer.ending c.in-Ok-answer.is
    (c.watched-answer.ensures c.args.origin
    (watched_opened c.args.plan.now c.args.origin (first_state c.args.plan.now (g.M.Machine.world c.in-Ok.core))
    c.in-Ok.ensures) c.new-busyness.ensures)
    c.clear.ensures c.tell.ensures

pub returns : goal.returns
returns g c = λ start. untold c.args.plan.now c.args.origin start c.clear.new.self.items c.clear.ensures
