use Rattle.std.proofs.Common.{◌≡◌, true, length}
use Rattle.oe_log.specs.Stands.{deleted_keys}
use Rattle.oe_log.proofs.walks.DeletedIterator.next.Given as goal

-- the records that were passed deleted nothing
abbrev pub invariant-loop-record : goal.invariant-loop-record
invariant-loop-record l =
    (l.self-inside.has_any ≡ true) × (deleted_keys l.self-inside.records ≡ l.fn.self)

abbrev pub decreases-loop-record : goal.decreases-loop-record
decreases-loop-record l = length l.self-inside.records
