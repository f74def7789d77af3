use Rattle.std.proofs.Common.{◌≡◌, ◌≤◌, ◌-◌, length}
use Rattle.oe_fields.specs.Parting.{fields_of}
use Rattle.oe_fields.proofs.fields.count_fields.Given as goal

-- the line is the same, and no more fields are passed than it has
abbrev pub invariant-loop : goal.invariant-loop
invariant-loop l = record {
  format : l.fields.format ≡ l.fn.format;
  text : l.fields.text ≡ l.initial.fields.text;
  below : l.fields.place ≤ length (fields_of l.fields.format l.fields.text);
}

abbrev pub decreases-loop : goal.decreases-loop
decreases-loop l = length (fields_of l.fields.format l.fields.text) - l.fields.place
