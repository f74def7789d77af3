use Rattle.std.proofs.Common.{length, ap, arith}
use Rattle.oe_deeds.proofs.FileFacts.{as_long, behind_is}
use Rattle.oe_deeds.proofs.files.behind.Goals as goal

pub returns-clause-rest : goal.returns-clause-rest
returns-clause-rest c = λ rest is. behind_is c.args.front.now rest c.args.line.now is

pub returns-clause-short : goal.returns-clause-short
returns-clause-short c =
    let long = as_long c.args.front.now c.requires.0 c.args.line.now c.requires.1 in
    let same = ap length (behind_is c.args.front.now c.requires.0 c.args.line.now c.requires.1) in
    omega (arith, long, same)
