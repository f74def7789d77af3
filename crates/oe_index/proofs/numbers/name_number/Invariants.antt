use Rattle.std.proofs.Common.{◌≡◌, ◌<◌, drop}
use Rattle.oe_index.specs.Numbers.{name_number, name_number_from}
use Rattle.oe_index.proofs.numbers.name_number.Given as goal

abbrev pub invariant-loop-byte : goal.invariant-loop-byte
invariant-loop-byte l = (name_number_from l.number (drop l.byte-index l.last) ≡ name_number l.last) × (l.number < 1_009)
