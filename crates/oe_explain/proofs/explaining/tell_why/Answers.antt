use Rattle.std.proofs.Common.{subst}
use Rattle.oe_script.specs.Hearing.{IsBad}
use Rattle.oe_explain.proofs.SayingFacts.{untaken_open}
use Rattle.oe_explain.proofs.explaining.tell_why.Goals as goal

pub tell_line-requires-in-Open-clause-bad : goal.tell_line-requires-in-Open-clause-bad
tell_line-requires-in-Open-clause-bad c =
    untaken_open c.args.line.now (subst (λ p. IsBad p c.args.line.now) c.in-Open.is c.requires.bad)
