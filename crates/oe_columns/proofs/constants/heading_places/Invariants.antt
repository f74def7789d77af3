use Rattle.std.proofs.Common.{◌≡◌, length}
use Rattle.oe_fields.specs.Parting.{fields_of}
use Rattle.oe_columns.proofs.ConstantFacts.{PlacedSo}
use Rattle.oe_columns.proofs.constants.heading_places.Given as goal

-- the columns so far have their places
abbrev pub invariant-loop-column : goal.invariant-loop-column
invariant-loop-column l = record {
  counted : length l.at.items ≡ l.column;
  so_far : PlacedSo l.before l.wanted-items (fields_of l.format l.line) l.at.items l.column;
}
