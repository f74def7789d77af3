use Rattle.std.proofs.Common.{rules, arith}
use Rattle.oe_runs.proofs.RunFacts.{served_next, served_all, ran_so}
use Rattle.oe_runs.proofs.runs.run.Goals as goal

pub loop-step-preserved : goal.loop-step-preserved
loop-step-preserved g c = record {
  served = served_next _ _ _ c.args.steps.now c.loop-step.step-index _ c.loop-step.answers.items c.push.new.self.items
      c.step-item.result c.copied.result c.step.result
      c.loop-step.invariant.served c.loop-step-test.true c.step-item.is c.copied.ensures c.step.ensures.serves
      (omega arith) (search rules);
  counted = search rules;
  room = search rules;
}

pub returns-clause-ran : goal.returns-clause-ran
returns-clause-ran g c =
    ran_so _ _ c.args.steps.now c.loop-step.answers.items c.is_reached.ensures
    (served_all _ _ c.args.steps.now c.loop-step.step-index c.loop-step.answers.items c.loop-step-test.false
    c.loop-step.invariant.served)
