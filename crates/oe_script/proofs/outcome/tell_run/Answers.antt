use Rattle.oe_script.proofs.outcome.tell_run.Goals as goal

pub tell_advanced-requires-clause-answer : goal.tell_advanced-requires-clause-answer
tell_advanced-requires-clause-answer g c = (c.run-ended.ensures.1, c.run-ended.ensures.2)

pub returns : goal.returns
returns g c =
    let r = c.run-ended.ensures in
    (r.0, r.1, r.3, c.tell_advanced.ensures r.1 r.2)
