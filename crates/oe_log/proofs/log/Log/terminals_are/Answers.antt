-- As many states as terminals, and one of nobody.
use Rattle.oe_log.proofs.CallFacts.{inside, seen_size}
use Rattle.oe_log.proofs.log.Log.terminals_are.Goals as goal

pub returns : goal.returns
returns c =
    rw (← c.self.view_is) (seen_size c.self.inside.layout (inside c.self.invariant.kept))
