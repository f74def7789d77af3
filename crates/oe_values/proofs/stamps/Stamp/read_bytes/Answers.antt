use Rattle.std.proofs.Common.{refl, ap, Some}
use Rattle.oe_values.proofs.StampFacts.{says_one}
use Rattle.oe_values.proofs.stamps.Stamp.read_bytes.Goals as goal

pub returns-in_err-since_1900-clause-reads : goal.returns-in_err-since_1900-clause-reads
returns-in_err-since_1900-clause-reads c n r = absurd (c.in_err-since_1900.ensures.none refl n r)

pub returns-clause-reads : goal.returns-clause-reads
returns-clause-reads c n r = ap Some (says_one _ _ _ c.in_ok-since_1900.ensures.some r)
