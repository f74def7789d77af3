use Rattle.std.proofs.Common.{◌<◌, length, arith, sym, subst}
use Rattle.oe_locks.specs.Listed.{IsListed}
use Rattle.oe_locks.proofs.HeldFacts.{listed-at}
use Rattle.oe_locks.proofs.Locks.names.Goals as goal

pub returns-clause-listed : goal.returns-clause-listed
returns-clause-listed c =
    let room : c.args.terminal < length c.self.inside.held = omega (arith, c.at.ensures.size, c.at.ensures.high) in
    rw (← c.self.view_is)
    (subst (IsListed c.self.inside.held c.args.terminal) (sym c.names.ensures.exact)
    (listed-at c.self.inside.held c.args.terminal c.at.result.now room c.at.ensures.value))
