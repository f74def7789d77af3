use Rattle.std.proofs.Common.{◌≡◌, length, [], ◌++◌}
use Rattle.std.specs.Slice.Iter.{iter_rest}
use Rattle.oe_table.specs.Shelf.{whole_list}
use Rattle.oe_table.proofs.shelf_walks.SlotsIterator.next.Given as goal

-- the shelves that were passed had no slot
abbrev pub invariant-loop-shelf : goal.invariant-loop-shelf
invariant-loop-shelf g l = (iter_rest l.self-inside.front ≡ [])
    × (whole_list (iter_rest l.self-inside.shelves) ++ iter_rest l.self-inside.back ≡ l.fn.self)

abbrev pub decreases-loop-shelf : goal.decreases-loop-shelf
decreases-loop-shelf g l = length (iter_rest l.self-inside.shelves)
