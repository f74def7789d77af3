use Rattle.std.proofs.Common.{◌≡◌, ◌-◌, length}
use Rattle.oe_fields.specs.Parting.{fields_of}
use Rattle.oe_columns.proofs.HeadingFacts.{NamedSo}
use Rattle.oe_columns.proofs.headings.find_name.Given as goal

-- what was seen so far
abbrev pub invariant-loop-text : goal.invariant-loop-text
invariant-loop-text l = record {
  format : l.fields.format ≡ l.fn.format;
  text : l.fields.text ≡ l.initial.fields.text;
  so_far : NamedSo l.name (fields_of l.fields.format l.fields.text) l.seen l.fields.place;
}

abbrev pub decreases-loop-text : goal.decreases-loop-text
decreases-loop-text l = length (fields_of l.fields.format l.fields.text) - l.fields.place
