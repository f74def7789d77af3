-- What n bytes hold.
use Rattle.byteorder.specs.Numbers.{big_from-lt}
use Rattle.std.proofs.Common.{arith}
use Rattle.oe_extent.proofs.numbers.read_number.Goals as goal

pub returns-clause-fits : goal.returns-clause-fits
returns-clause-fits c = rw c.read_uint.ensures
    (big_from-lt 0 c.args.width c.args.bytes.now (λ i. omega (arith, c.type_inv.bytes i)))
