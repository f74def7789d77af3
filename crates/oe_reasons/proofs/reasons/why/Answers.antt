use Rattle.oe_reasons.proofs.reasons.why.Goals as goal

pub returns-in-Some-clause-why : goal.returns-in-Some-clause-why
returns-in-Some-clause-why c = c.no_place.ensures.why c.args.line.now c.in-Some.ensures.found

pub returns-in-None-clause-why : goal.returns-in-None-clause-why
returns-in-None-clause-why c = c.no_form.ensures c.args.is_open
