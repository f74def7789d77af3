use Rattle.oe_locks.proofs.HeldFacts.{in-the-way, nobody-else, own-out, none-out, own-unasked, none-unasked}
use Rattle.oe_locks.proofs.Locks.in_the_way.Goals as goal

pub returns-in_err-least : goal.returns-in_err-least
returns-in_err-least c =
    rw (← c.self.view_is, c.from_residual.ensures)
    (nobody-else c.self.inside.held c.without-others.result c.args.terminal c.args.name.now c.args.mode
    (own-out c.self.inside.held c.self.inside.busy c.without-others.result c.args.terminal c.self.invariant.0
    c.without-others.ensures)
    (none-out c.self.inside.held c.self.inside.busy c.without-others.result c.args.terminal c.self.invariant.0
    c.without-others.ensures c.args.name.now)
    c.in_err-least.ensures)

pub returns : goal.returns
returns c =
    rw (← c.self.view_is)
    (in-the-way c.self.inside.held c.both-asked.result c.args.terminal c.args.name.now c.args.mode
    (own-unasked c.self.inside.held c.self.inside.busy c.without-others.result c.args.terminal c.self.invariant.0
    c.without-others.ensures c.self.inside.holders c.self.invariant.1 c.args.name.now c.mark_of.result
    c.both-asked.result c.of.result c.mark_of.ensures.value c.of.ensures c.both-asked.ensures)
    (none-unasked c.self.inside.held c.self.inside.busy c.without-others.result c.args.terminal c.self.invariant.0
    c.without-others.ensures c.self.inside.holders c.self.invariant.1 c.args.name.now c.mark_of.result
    c.both-asked.result c.of.result c.mark_of.ensures.value c.of.ensures c.both-asked.ensures)
    c.least_in_the_way.result
    (rw c.self.view_is c.least_in_the_way.ensures))
