use Rattle.std.proofs.Common.{ℕ, take, Option}
use Rattle.oe_earlier.specs.Keeping.{KeepsCompared}
use Rattle.oe_earlier.specs.Traces.{Traced}
use Rattle.oe_books.specs.Facts.{Facts}
use Rattle.oe_books.specs.Closing.{IsReady}
use Rattle.oe_books.specs.Found.{ArePartsFound, initial_of}
use Rattle.oe_books.proofs.findings.parts_found.Given as goal

-- the parts so far
abbrev pub invariant-loop-part : goal.invariant-loop-part
invariant-loop-part l =
    (given : Option ℕ) (t : Facts) → IsReady given t l.settled → (b n : Traced) → KeepsCompared b n l.compared
    → ArePartsFound (initial_of l.settled) l.settled.each t b n (take l.part-index l.parts) l.all.items
