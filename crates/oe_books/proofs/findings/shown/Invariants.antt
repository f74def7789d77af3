use Rattle.std.proofs.Common.{◌≡◌, take, map}
use Rattle.oe_books.specs.Found.{finding_of}
use Rattle.oe_books.proofs.findings.shown.Given as goal

-- the findings so far
abbrev pub invariant-loop-entry : goal.invariant-loop-entry
invariant-loop-entry g l = l.found.items ≡ map (finding_of g.K.RowKey.numbers) (take l.entry-index l.entries)
