use Rattle.std.proofs.Common.{refl}
use Rattle.oe_rename.proofs.StageFacts.{is_ready}
use Rattle.oe_rename.proofs.programs.Program.next.Goals as goal

pub returns-then-has_ended : goal.returns-then-has_ended
returns-then-has_ended c = (
  is_ready c.args.engine.now c.args.tx.now c.args.request.now c.args.self.now
      (c.is_open.ensures.0 c.if-not-is_open.false) (c.has_ended.ensures.0 c.if-has_ended.true),
  refl,
  refl,
)
