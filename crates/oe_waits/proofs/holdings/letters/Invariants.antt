use Rattle.std.proofs.Common.{◌≡◌, ◌++◌, take}
use Rattle.oe_waits.proofs.holdings.letters.Given as goal

-- the letters so far stand behind the place
abbrev pub invariant-loop-letter : goal.invariant-loop-letter
invariant-loop-letter l = l.place.items ≡ l.initial.place.items ++ take l.letter-index l.letter-items
