use Rattle.std.proofs.Common.{arith, subst}
use Rattle.oe_load.specs.Happens.{IsPassing}
use Rattle.oe_load.specs.Turns.{counts_of}
use Rattle.oe_load.proofs.LoadFacts.{tells_commit}
use Rattle.oe_load.proofs.turns.committed.Goals as goal

pub returns : goal.returns
returns g c = λ before m y n asked.
    tells_commit c.args.plan.now before (counts_of c.args.served.now) (g.M.Machine.world c.args.core.now)
    c.args.out.now.items
    c.next_line.new.out.items c.args.terminal m y c.passed.result (counts_of c.serve.new.served) (
      omega (arith, c.get-number.ensures.low, c.get-number.ensures.value),
      omega (arith, c.get-number.ensures.high, c.get-number.ensures.value),
    )
    n (subst (λ l. IsPassing c.args.terminal l c.passed.result) asked c.passed.ensures) c.serve.ensures
    c.next_line.ensures.items c.next_line.ensures.len
