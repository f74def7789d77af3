use Rattle.std.proofs.Common.{◌-◌, ◌<◌, arith}
use Rattle.std.proofs.lemmas.List.{get_or-replicate}
use Rattle.oe_audit.proofs.ledgers.zeros.Goals as goal

pub returns : goal.returns
returns c n low high = get_or-replicate 3_000 (n - 1) 0 0 (let z : n - 1 < 3_000 = omega arith in z)
