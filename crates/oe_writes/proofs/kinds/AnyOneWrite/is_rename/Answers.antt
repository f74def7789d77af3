use Rattle.oe_writes.proofs.UnplacedFacts.{plain_named}
use Rattle.oe_writes.proofs.kinds.AnyOneWrite.is_rename.Goals as goal

pub returns : goal.returns
returns g c = plain_named (g.P.PlainWrite.plain c.args.self.now) (g.met.P.PlainWrite.is_plain c.args.self.now)
