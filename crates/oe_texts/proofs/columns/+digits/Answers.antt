use Rattle.std.proofs.Common.{arith}
use Rattle.oe_texts.proofs.DigitFacts.{appended, length_more}
use Rattle.oe_texts.proofs.columns.+digits.Goals as goal

pub below_hundred-requires-then-n-lt10000-clause-room : goal.below_hundred-requires-then-n-lt10000-clause-room
below_hundred-requires-then-n-lt10000-clause-room t c = omega (arith, length_more c.args.n c.if-n-lt100.false)

pub two-requires-clause-room : goal.two-requires-clause-room
two-requires-clause-room t c =
    omega (arith, length_more c.args.n c.if-n-lt100.false, c.below_hundred-then-n-lt10000.ensures.len)

pub digits-requires : goal.digits-requires
digits-requires t c = omega (arith, length_more c.args.n c.if-n-lt100.false)

pub two-requires-else-n-lt10000-clause-room : goal.two-requires-else-n-lt10000-clause-room
two-requires-else-n-lt10000-clause-room t c =
    omega (arith, length_more c.args.n c.if-n-lt100.false, c.digits.ensures.len)

pub returns-then-n-lt10000-clause-items : goal.returns-then-n-lt10000-clause-items
returns-then-n-lt10000-clause-items t c =
    appended _ _ _ c.args.n c.if-n-lt100.false (omega arith) c.below_hundred-then-n-lt10000.ensures.items
    c.two.ensures.items

pub returns-then-n-lt10000-clause-len : goal.returns-then-n-lt10000-clause-len
returns-then-n-lt10000-clause-len t c =
    omega (
      arith,
      length_more c.args.n c.if-n-lt100.false,
      c.below_hundred-then-n-lt10000.ensures.len,
      c.two.ensures.len,
    )

pub returns-else-n-lt10000-clause-items : goal.returns-else-n-lt10000-clause-items
returns-else-n-lt10000-clause-items t c =
    appended _ _ _ c.args.n c.if-n-lt100.false (omega arith) c.digits.ensures.items c.two-else-n-lt10000.ensures.items

pub returns-else-n-lt10000-clause-len : goal.returns-else-n-lt10000-clause-len
returns-else-n-lt10000-clause-len t c =
    omega (arith, length_more c.args.n c.if-n-lt100.false, c.digits.ensures.len, c.two-else-n-lt10000.ensures.len)
