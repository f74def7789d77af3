-- The open segment is its head's.
use Rattle.oe_log.proofs.CallFacts.{inside, owner_is, never_none}
use Rattle.oe_log.proofs.log.Log.owner.Goals as goal

pub returns : goal.returns
returns c =
    rw (← c.self.view_is)
    (owner_is c.self.inside.layout (inside c.self.invariant.kept) c.terminal.result c.args.segment c.at.result.now
    c.in-Some.owner
    c.terminal.ensures c.at.ensures.high c.at.ensures.value c.in-Some.is)

pub unreachable-requires : goal.unreachable-requires
unreachable-requires c =
    let some = rw (← c.self.view_is) at c.requires in
    never_none c.self.inside.layout (inside c.self.invariant.kept) c.terminal.result c.args.segment c.at.result.now
    c.terminal.ensures c.at.ensures.high c.at.ensures.value some c.in-None.is
