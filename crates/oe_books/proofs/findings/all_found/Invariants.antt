use Rattle.std.proofs.Common.{ℕ, take, Option}
use Rattle.oe_earlier.specs.Keeping.{KeepsCompared}
use Rattle.oe_earlier.specs.Traces.{Traced}
use Rattle.oe_books.specs.Facts.{Facts}
use Rattle.oe_books.specs.Closing.{IsReady}
use Rattle.oe_books.specs.Found.{AreChecksFound, initial_of}
use Rattle.oe_books.proofs.findings.all_found.Given as goal

-- the checks so far
abbrev pub invariant-loop-check : goal.invariant-loop-check
invariant-loop-check l =
    (given : Option ℕ) (t : Facts) → IsReady given t l.settled → (b n : Traced) → KeepsCompared b n l.compared
    → AreChecksFound (initial_of l.settled) l.settled.each t b n (take l.check-index l.checks) l.all.items
