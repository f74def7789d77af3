use Rattle.std.proofs.Common.{◌≡◌, length}
use Rattle.oe_fields.specs.Parting.{fields_of}
use Rattle.oe_columns.specs.Ahead.{AreFirst}
use Rattle.oe_columns.proofs.rows.numbers_ahead.Given as goal

-- the line is the same, and the columns so far have their numbers
abbrev pub invariant-loop-place : goal.invariant-loop-place
invariant-loop-place l = record {
  format : l.fields.format ≡ l.initial.fields.format;
  text : l.fields.text ≡ l.initial.fields.text;
  counted : length l.ahead.items ≡ l.place-index;
  so_far : AreFirst (fields_of l.initial.fields.format l.initial.fields.text) l.places l.ahead.items;
}
