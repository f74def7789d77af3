use Rattle.std.proofs.Common.{◌≡◌, ◌≤◌, ◌-◌}
use Rattle.oe_fields.proofs.fields.Fields.pass_to.Given as goal

-- the line is the same, and the place is not passed
abbrev pub invariant-loop-self : goal.invariant-loop-self
invariant-loop-self l = record {
  format : l.self.format ≡ l.initial.self.format;
  text : l.self.text ≡ l.initial.self.text;
  below : l.self.place ≤ l.place;
}

abbrev pub decreases-loop-self : goal.decreases-loop-self
decreases-loop-self l = l.place - l.self.place
