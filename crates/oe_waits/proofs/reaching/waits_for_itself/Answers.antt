use Rattle.std.proofs.Common.{◌∙◌, arith}
use Rattle.oe_waits.proofs.reaching.waits_for_itself.Goals as goal

pub returns : goal.returns
returns g c = c.is_in.ensures
    ∙ c.reached-ahead.ensures c.args.terminal (omega (arith, c.get-number.ensures.low, c.get-number.ensures.value))
    (omega (arith, c.get-number.ensures.high, c.get-number.ensures.value))
