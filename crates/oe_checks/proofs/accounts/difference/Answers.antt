use Rattle.std.proofs.Common.{rules}
use Rattle.std.proofs.lemmas.Int.{wraps}
use Rattle.oe_checks.proofs.accounts.difference.Goals as goal

pub returns : goal.returns
returns c = search (rules, wraps)
