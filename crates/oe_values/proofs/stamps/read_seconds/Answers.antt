use Rattle.std.proofs.Common.{sym, ◌∙◌}
use Rattle.oe_values.proofs.StampFacts.{numbers_only, IsCounted-read, SaysStamp-read, if_some}
use Rattle.oe_values.proofs.stamps.read_seconds.Goals as goal

pub returns-in_err-date-clause-none : goal.returns-in_err-date-clause-none
returns-in_err-date-clause-none c none n r = let wrong = c.in_err-date.ensures ∙ numbers_only _ n r in cc

pub returns-clause-none : goal.returns-clause-none
returns-clause-none c none n r = c.count.ensures.none none n (IsCounted-read _ n r _ _ (sym c.in_ok-date.ensures))

pub returns-clause-some : goal.returns-clause-some
returns-clause-some c =
    if_some c.count.result _ _ (λ n. SaysStamp-read _ n _ _ (sym c.in_ok-date.ensures)) c.count.ensures.some
