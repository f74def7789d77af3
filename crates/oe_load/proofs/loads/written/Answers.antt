use Rattle.std.proofs.Common.{Ok, subst, sym}
use Rattle.oe_numbers.specs.declared.forms.Form.{Form}
use Rattle.oe_load.specs.Ends.{Wrote}
use Rattle.oe_load.proofs.loads.written.Goals as goal

pub returns-in-Busy : goal.returns-in-Busy
returns-in-Busy g c =
    subst (λ (f : Form). Wrote c.args.plan.now c.args.origin f (g.W.Outlet.sink c.args.to.now)
    (g.W.Outlet.sink c.args.to.now) c.busy.new.out.items (Ok c.busy.result)) (sym c.in-Busy.is)
    (c.busy.ensures (g.W.Outlet.sink c.args.to.now))
