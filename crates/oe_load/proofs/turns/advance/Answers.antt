use Rattle.std.proofs.Common.{arith, subst}
use Rattle.oe_load.specs.Happens.{IsPassing}
use Rattle.oe_load.specs.Turns.{counts_of}
use Rattle.oe_load.proofs.LoadFacts.{tells_more}
use Rattle.oe_load.proofs.turns.advance.Goals as goal

pub returns-in-More : goal.returns-in-More
returns-in-More g c =
    tells_more c.args.plan.now (g.M.Machine.world c.args.core.now) (counts_of c.args.served.now)
    (g.M.Machine.world c.advance.new.self)
    c.args.out.now.items c.next_line.new.out.items c.args.terminal c.passed.result (
      omega (arith, c.get-number.ensures.low, c.get-number.ensures.value),
      omega (arith, c.get-number.ensures.high, c.get-number.ensures.value),
    )
    c.in-More.ensures.advances.0
    (subst (λ l. IsPassing c.args.terminal l c.passed.result) c.wanted-asked.ensures c.passed.ensures)
    c.next_line.ensures.items c.next_line.ensures.len

pub returns-in-Committed : goal.returns-in-Committed
returns-in-Committed g c =
    c.committed.ensures (g.M.Machine.world c.args.core.now) _ c.in-Committed.ensures.advances.0
    c.in-Committed.ensures.advances.2.0 c.wanted-asked.ensures

pub returns-in-Kept : goal.returns-in-Kept
returns-in-Kept g c = c.refused.ensures (g.M.Machine.world c.args.core.now) c.in-Kept.ensures.advances.0.0
    c.wanted-asked.ensures

pub returns-in-RolledBack : goal.returns-in-RolledBack
returns-in-RolledBack g c =
    c.refused-in-RolledBack.ensures (g.M.Machine.world c.args.core.now) c.in-RolledBack.ensures.advances.0.0
    c.wanted-asked.ensures
