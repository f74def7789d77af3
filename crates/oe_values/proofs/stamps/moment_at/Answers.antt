use Rattle.std.proofs.Common.{◌≡◌, arith, ◌+ℤ◌, pos}
use Rattle.jiff_core.specs.declared.civil.datetime.DateTime.{DateTime}
use Rattle.jiff_core.specs.DateTime.{civil_seconds}
use Rattle.jiff_core.proofs.SignedLemmas.{signed_arith}
use Rattle.oe_values.proofs.StampFacts.{civil_seconds-parts, since_1900}
use Rattle.oe_values.proofs.stamps.moment_at.Goals as goal

moment : goal.After-from_second → DateTime
moment c = record { date = c.from_days_since_min.result; time = c.from_second.result }

counted : (c : goal.After-from_second) → pos c.args.seconds ≡ civil_seconds (moment c) +ℤ pos 2_208_988_800
unfolding moment
counted c = omega (
  arith,
  signed_arith,
  civil_seconds-parts (moment c),
  c.from_days_since_min.ensures,
  c.from_second.ensures.seconds,
)

pub returns-clause-seconds : goal.returns-clause-seconds
unfolding moment
returns-clause-seconds c = counted c

pub returns-clause-since_1900 : goal.returns-clause-since_1900
unfolding moment
returns-clause-since_1900 c = since_1900 (moment c) c.args.seconds (counted c)
