use Rattle.std.proofs.Common.{◌<◌, length, arith, sym, ◌∙◌}
use Rattle.oe_locks.proofs.HeldFacts.{held-at}
use Rattle.oe_locks.proofs.Locks.holds.Goals as goal

pub returns : goal.returns
returns c =
    let room : c.args.terminal < length c.self.inside.held = omega (arith, c.at.ensures.size, c.at.ensures.high) in
    rw (← c.self.view_is)
    (c.mode.ensures ∙ sym
    (held-at c.self.inside.held c.args.terminal c.at.result.now room c.at.ensures.value c.args.name.now))
