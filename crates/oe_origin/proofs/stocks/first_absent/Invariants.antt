use Rattle.std.proofs.Common.{◌≡◌}
use Rattle.std.specs.FinMap.{entries}
use Rattle.oe_store.specs.Places.{rows}
use Rattle.oe_origin.specs.Walks.{first_absent}
use Rattle.oe_origin.proofs.stocks.first_absent.Given as goal

-- the first item without stock is among those that are left
abbrev pub invariant-loop-item : goal.invariant-loop-item
invariant-loop-item l =
    first_absent (rows l.tables) l.warehouse l.item-iterator
    ≡ first_absent (rows l.tables) l.warehouse (entries (rows l.tables).items)
