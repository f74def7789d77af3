use Rattle.std.proofs.Common.{◌≡◌, take}
use Rattle.oe_columns.proofs.constants.Constants.of_dump.Given as goal

-- the places so far
abbrev pub invariant-loop-place : goal.invariant-loop-place
invariant-loop-place l = l.at.items ≡ take l.place-index l.places
