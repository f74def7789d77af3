use Rattle.std.proofs.Common.{refl}
use Rattle.oe_values.proofs.StampFacts.{counted_at, days_counted}
use Rattle.oe_values.proofs.stamps.count.Goals as goal

pub returns-in_err-days-clause-none : goal.returns-in_err-days-clause-none
returns-in_err-days-clause-none c none n counted =
    let days = days_counted _ _ _ _ _ _ n counted in
    c.in_err-days.ensures.none refl _ (counted.is_date, days.1, days.0)

pub returns-in_err-seconds-clause-none : goal.returns-in_err-seconds-clause-none
returns-in_err-seconds-clause-none c none n counted = c.in_err-seconds.ensures.none refl _ (counted.is_time, refl)

pub returns-clause-some : goal.returns-clause-some
returns-clause-some c =
    let days = c.in_ok-days.ensures.some in
    let seconds = c.in_ok-seconds.ensures.some in
    rw (c.from.ensures, c.from-2.ensures) (counted_at _ _ _ _ _ _ _ _ days.0 days.1 days.2 seconds.0 seconds.1)
