use Rattle.oe_values.specs.Stamp.{SaysStamp}
use Rattle.oe_values.proofs.StampFacts.{SaysStamp-moment, says_alone}
use Rattle.oe_values.proofs.stamps.Stamp.bytes.Goals as goal

said : (c : goal.After-spelled) → SaysStamp c.spelled.result c.args.self
said c =
    rw (← c.seconds.ensures.value)
    (SaysStamp-moment c.moment_at-moment.result _ _ c.moment_at-moment.ensures.seconds
    c.moment_at-moment.ensures.since_1900 c.seconds.ensures.high c.spelled.ensures.value)

pub returns-clause-says : goal.returns-clause-says
returns-clause-says c = said c

pub returns-clause-only : goal.returns-clause-only
returns-clause-only c text says = says_alone _ _ _ says (said c)
