use Rattle.std.proofs.Common.{◌≡◌, true, length}
use Rattle.oe_table.specs.Table.{rows_of}
use Rattle.oe_index.specs.Listed.{rows_at_keys}
use Rattle.oe_index.proofs.walks.FoundIterator.next.Given as goal

-- the keys that were passed have no row
abbrev pub invariant-loop-key : goal.invariant-loop-key
invariant-loop-key g l =
    (l.self-inside.is_listed ≡ true)
    × (rows_at_keys g.K.Ord.cmp (rows_of g.K.Ord.cmp l.self-inside.rows.now) l.self-inside.listed ≡ l.fn.self)

abbrev pub decreases-loop-key : goal.decreases-loop-key
decreases-loop-key g l = length l.self-inside.listed
