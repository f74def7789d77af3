use Rattle.std.proofs.Common.{◌≡◌}
use Rattle.std.specs.FinMap.{entries}
use Rattle.oe_store.specs.Places.{rows}
use Rattle.oe_origin.specs.Walks.{first_unstocked}
use Rattle.oe_origin.proofs.stocks.first_unstocked.Given as goal

-- the first warehouse without some stock is among those that are left
abbrev pub invariant-loop-warehouse : goal.invariant-loop-warehouse
invariant-loop-warehouse l =
    first_unstocked (rows l.tables) l.warehouse-iterator
    ≡ first_unstocked (rows l.tables) (entries (rows l.tables).warehouses)
