use Rattle.std.proofs.Common.{arith, subst}
use Rattle.oe_load.specs.Happens.{IsPassing}
use Rattle.oe_load.specs.Turns.{counts_of}
use Rattle.oe_load.proofs.LoadFacts.{tells_abort}
use Rattle.oe_load.proofs.turns.rolled_back.Goals as goal

pub returns-in-AsDrawn : goal.returns-in-AsDrawn
returns-in-AsDrawn g c = λ before n asked.
    tells_abort c.args.plan.now before (counts_of c.args.served.now) (g.M.Machine.world c.args.core.now)
    c.args.out.now.items
    c.next_line.new.out.items c.args.terminal c.passed.result (counts_of c.serve.new.served) (
      omega (arith, c.get-number.ensures.low, c.get-number.ensures.value),
      omega (arith, c.get-number.ensures.high, c.get-number.ensures.value),
    )
    c.in-AsDrawn.is n (subst (λ l. IsPassing c.args.terminal l c.passed.result) asked c.passed.ensures)
    c.serve.ensures c.next_line.ensures.items c.next_line.ensures.len
