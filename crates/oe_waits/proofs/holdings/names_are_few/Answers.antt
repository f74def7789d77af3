use Rattle.std.proofs.Common.{arith}
use Rattle.oe_waits.proofs.HeldFacts.{few_held}
use Rattle.oe_waits.proofs.holdings.names_are_few.Goals as goal

pub returns : goal.returns
returns g c =
    let few = few_held (g.M.Machine.world c.args.core.now) c.args.holder c.names-count.result.now
    c.names-count.ensures.held in
    omega (arith, few)
