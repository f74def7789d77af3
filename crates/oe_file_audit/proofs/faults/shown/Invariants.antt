use Rattle.std.proofs.Common.{◌≡◌, ◌+◌, ◌++◌, take, map}
use Rattle.arrayvec.specs.ArrayVec.{array_vec_len}
use Rattle.oe_file_audit.specs.Faults.{printable_byte}
use Rattle.oe_file_audit.proofs.faults.shown.Given as goal

-- the bytes so far
abbrev pub invariant-loop-byte : goal.invariant-loop-byte
invariant-loop-byte l = record {
  items : l.out.items ≡ l.initial.out.items ++ map printable_byte (take l.byte-index l.bytes);
  len : array_vec_len l.out ≡ array_vec_len l.initial.out + l.byte-index;
}
