use Rattle.std.proofs.Common.{refl, sym}
use Rattle.oe_neworder.proofs.LineFacts.{ready_at}
use Rattle.oe_neworder.proofs.fillings.Filling.next.Goals as goal

pub returns-in_default : goal.returns-in_default
returns-in_default c = (
  ready_at c.args.engine.now c.args.tx.now c.args.request.now c.args.self.now (sym c.in_default.ensures.value)
      c.requires.open,
  refl,
  refl,
)
