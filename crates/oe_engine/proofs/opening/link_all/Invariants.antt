use Rattle.std.proofs.Common.{drop}
use Rattle.oe_engine.specs.Opened.{IsLinked}
use Rattle.oe_engine.proofs.OpenFacts.{IsLinking}
use Rattle.oe_engine.proofs.opening.link_all.Given as goal

abbrev pub invariant-loop-table : goal.invariant-loop-table
invariant-loop-table l = IsLinking (IsLinked l.fn.tables) l.fn.undo l.undo (drop l.table-index l.table-items)
    l.table-items
