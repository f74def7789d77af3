use Rattle.std.proofs.Common.{◌≡◌, ◌≤◌, ◌+◌, ◌*◌, ◌++◌, take}
use Rattle.std.specs.List.{flat_map}
use Rattle.arrayvec.specs.ArrayVec.{array_vec_len}
use Rattle.oe_audit_report.specs.Texts.{json_bytes}
use Rattle.oe_audit_report.proofs.texts.string.Given as goal

-- the bytes so far
abbrev pub invariant-loop-byte : goal.invariant-loop-byte
invariant-loop-byte l = record {
  items : l.out.items ≡ l.initial.out.items ++ flat_map json_bytes (take l.byte-index l.bytes);
  len : array_vec_len l.out ≤ array_vec_len l.initial.out + 6 * l.byte-index;
}
