use Rattle.std.proofs.Common.{refl}
use Rattle.oe_busy.proofs.CountFacts.{none}
use Rattle.oe_busy.proofs.waits.Waits.new.Goals as goal

pub returns : goal.returns
returns c = record { lines_are = refl; since_is = none 65; longest_is = refl }
