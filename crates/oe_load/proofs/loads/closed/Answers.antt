use Rattle.std.proofs.Common.{Result, subst}
use Rattle.oe_io.specs.declared.ports.Failed.{Failed}
use Rattle.oe_load.specs.Ends.{Wrote}
use Rattle.oe_load.specs.declared.loads.Ending.{Ending}
use Rattle.oe_load.proofs.EndFacts.{closes_cut}
use Rattle.oe_load.proofs.loads.closed.Goals as goal

pub returns-in-Err : goal.returns-in-Err
returns-in-Err g c = λ p o form start h.
    closes_cut p o form start (g.W.Outlet.sink c.args.to.now) (g.W.Outlet.sink c.flush.new.to) c.args.out.now.items
    c.in-Ok.ending
    (subst (λ (z : Result Ending Failed). Wrote p o form start (g.W.Outlet.sink c.args.to.now) c.args.out.now.items z)
    c.in-Ok.is h)
    c.in-Err.ensures.stream
