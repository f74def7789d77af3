use Rattle.std.proofs.Common.{◌≡◌, take}
use Rattle.oe_sources.proofs.faults.Shown.of.Given as goal

-- the bytes so far
abbrev pub invariant-loop-byte : goal.invariant-loop-byte
invariant-loop-byte l = l.bytes.items ≡ take l.byte-index l.front
