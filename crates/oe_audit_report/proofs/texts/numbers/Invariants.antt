use Rattle.std.proofs.Common.{◌≡◌, ◌≤◌, ◌+◌, ◌*◌, ◌++◌, take}
use Rattle.std.specs.List.{flat_map}
use Rattle.arrayvec.specs.ArrayVec.{array_vec_len}
use Rattle.oe_audit_report.specs.Texts.{number_text}
use Rattle.oe_audit_report.proofs.texts.numbers.Given as goal

-- the numbers so far
abbrev pub invariant-loop-part : goal.invariant-loop-part
invariant-loop-part l = record {
  items : l.out.items ≡ l.initial.out.items ++ flat_map (number_text l.before) (take l.part-index l.key);
  len : array_vec_len l.out ≤ array_vec_len l.initial.out + 21 * l.part-index;
}
