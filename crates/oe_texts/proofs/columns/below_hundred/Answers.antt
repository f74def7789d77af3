use Rattle.std.proofs.Common.{arith}
use Rattle.std.proofs.lemmas.Fmt.{decimal_digit}
use Rattle.oe_texts.proofs.DigitFacts.{decimal_two, length_one, length_two}
use Rattle.oe_texts.proofs.columns.below_hundred.Goals as goal

pub push-requires : goal.push-requires
push-requires c = omega (arith, length_one c.args.n c.if-n-lt10.true, c.requires.room)

pub two-requires-clause-room : goal.two-requires-clause-room
two-requires-clause-room c = omega (arith, length_two c.args.n c.if-n-lt10.false c.requires.small, c.requires.room)

pub returns-then-n-lt10-clause-items : goal.returns-then-n-lt10-clause-items
returns-then-n-lt10-clause-items c = rw (decimal_digit c.args.n c.if-n-lt10.true) c.push.ensures.items

pub returns-then-n-lt10-clause-len : goal.returns-then-n-lt10-clause-len
returns-then-n-lt10-clause-len c = omega (arith, length_one c.args.n c.if-n-lt10.true, c.push.ensures.len)

pub returns-else-n-lt10-clause-items : goal.returns-else-n-lt10-clause-items
returns-else-n-lt10-clause-items c = rw (decimal_two c.args.n c.if-n-lt10.false c.requires.small) c.two.ensures.items

pub returns-else-n-lt10-clause-len : goal.returns-else-n-lt10-clause-len
returns-else-n-lt10-clause-len c =
    omega (arith, length_two c.args.n c.if-n-lt10.false c.requires.small, c.two.ensures.len)
