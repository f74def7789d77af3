use Rattle.std.proofs.Common.{take}
use Rattle.oe_ledgers.specs.Keys.{same_customer}
use Rattle.oe_ledgers.specs.Sums.{takings_joined}
use Rattle.oe_ledgers.specs.Keeping.{Keeps}
use Rattle.oe_checks.specs.Deliveries.{delivery_entry}
use Rattle.oe_checks.proofs.deliveries.tally_of.Given as goal

-- the tally has the deliveries so far
abbrev pub invariant-loop-entry : goal.invariant-loop-entry
invariant-loop-entry l =
    Keeps same_customer takings_joined delivery_entry (take l.entry-index l.deliveries) l.tally
