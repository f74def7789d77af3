-- What is left of the walk is what was left, and older extents are fewer and fewer.
use Rattle.std.proofs.Common.{◌≡◌, ◌++◌, length}
use Rattle.oe_extent.specs.Extents.{all_strings, contents_of}
use Rattle.oe_extent.proofs.walks.StringsIterator.next.Given as goal

abbrev pub invariant-loop-string : goal.invariant-loop-string
invariant-loop-string l = l.self-inside.newest ++ all_strings (contents_of l.self-inside.older.now) ≡ l.fn.self

abbrev pub decreases-loop-string : goal.decreases-loop-string
decreases-loop-string l = length (contents_of l.self-inside.older.now)
