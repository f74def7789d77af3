use Rattle.std.proofs.Common.{arith, subst}
use Rattle.oe_load.specs.Happens.{IsBreaking}
use Rattle.oe_load.specs.Turns.{counts_of}
use Rattle.oe_load.proofs.LoadFacts.{tells_way}
use Rattle.oe_load.proofs.turns.give_way.Goals as goal

pub returns-in-RolledBack : goal.returns-in-RolledBack
returns-in-RolledBack g c = λ k does.
    tells_way c.args.plan.now (g.M.Machine.world c.args.core.now) (counts_of c.args.served.now)
    (g.M.Machine.world c.rollback.new.self)
    c.args.out.now.items c.rollback_line.new.out.items k c.args.terminal c.broken.result does (
      omega (arith, c.get-number.ensures.low, c.get-number.ensures.value),
      omega (arith, c.get-number.ensures.high, c.get-number.ensures.value),
    )
    c.in-RolledBack.ensures.carries.0
    (subst (λ l. IsBreaking c.args.terminal l c.broken.result) c.wanted_in_cycle-asked.ensures c.broken.ensures)
    c.rollback_line.ensures.items c.rollback_line.ensures.len
