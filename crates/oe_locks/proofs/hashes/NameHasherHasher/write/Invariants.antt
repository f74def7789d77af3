use Rattle.std.proofs.Common.{◌≡◌, drop, fold}
use Rattle.oe_locks.specs.Hashes.{hash_with}
use Rattle.oe_locks.proofs.hashes.NameHasherHasher.write.Given as goal

abbrev pub invariant-loop-b : goal.invariant-loop-b
invariant-loop-b l = fold hash_with l.self.state (drop l.b-index l.bytes) ≡ fold hash_with l.initial.self.state l.bytes
