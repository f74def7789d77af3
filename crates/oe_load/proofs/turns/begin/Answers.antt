use Rattle.std.proofs.Common.{arith}
use Rattle.oe_load.specs.Turns.{counts_of}
use Rattle.oe_load.proofs.LoadFacts.{asks_begin}
use Rattle.oe_load.proofs.turns.begin.Goals as goal

pub returns-in-Ok : goal.returns-in-Ok
returns-in-Ok g c =
    asks_begin c.args.plan.now (g.M.Machine.world c.args.core.now) (counts_of c.args.served.now)
    (g.M.Machine.world c.begin.new.self)
    c.args.out.now.items c.begin_line.new.out.items c.args.terminal c.args.request.now (
      omega (arith, c.get-number.ensures.low, c.get-number.ensures.value),
      omega (arith, c.get-number.ensures.high, c.get-number.ensures.value),
    )
    c.ranges_hold.ensures c.requires.next c.in-Ok.ensures.carries.0 c.begin_line.ensures.items c.begin_line.ensures.len
