use Rattle.std.proofs.Common.{◌≡◌, take}
use Rattle.oe_books.proofs.keys.Key.of.Given as goal

-- the numbers so far
abbrev pub invariant-loop-number : goal.invariant-loop-number
invariant-loop-number l = l.taken.items ≡ take l.number-index l.numbers
