use Rattle.oe_values.proofs.HeldFacts.{joined}
use Rattle.oe_values.proofs.held.join.Goals as goal

pub returns-clause-joined : goal.returns-clause-joined
returns-clause-joined c = joined c.args.whole.now c.args.first.now c.args.rest.now c.put.new.held
    c.copy_from_slice.new.self c.min-kept.result _ c.requires c.min-kept.ensures c.put.ensures
    c.copy_from_slice.ensures.after
