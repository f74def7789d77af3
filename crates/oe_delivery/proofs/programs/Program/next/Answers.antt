use Rattle.std.proofs.Common.{refl, sym, subst, ◌∙◌}
use Rattle.std.specs.Prelude.{IsSome}
use Rattle.oe_delivery.specs.Program.{position_of}
use Rattle.oe_delivery.proofs.StageFacts.{is_ready}
use Rattle.oe_delivery.proofs.programs.Program.next.Goals as goal

pub returns-then-is_some : goal.returns-then-is_some
returns-then-is_some c = (
  is_ready c.args.engine.now c.args.tx.now c.args.request.now (position_of c.args.self.now)
      (c.is_open.ensures.0 c.if-not-is_open.false)
      (subst (λ o. IsSome o) c.reply.ensures (sym c.is_some.ensures ∙ c.if-is_some.true)),
  refl,
  refl,
)
