use Rattle.std.proofs.Common.{◌≡◌, ◌+◌, ◌-◌, ◌≤◌, length, drop, false}
use Rattle.oe_fields.specs.Parting.{end_from}
use Rattle.oe_fields.proofs.fields.field_end.Given as goal

-- the field goes on up to here
abbrev pub invariant-loop-start : goal.invariant-loop-start
invariant-loop-start l = record {
  within : l.start ≤ length l.text;
  so_far : end_from l.format false l.text ≡ l.start + end_from l.format false (drop l.start l.text);
}

abbrev pub decreases-loop-start : goal.decreases-loop-start
decreases-loop-start l = length l.text - l.start
