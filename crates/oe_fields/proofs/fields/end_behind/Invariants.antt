use Rattle.std.proofs.Common.{◌≡◌, ◌+◌, drop, false}
use Rattle.oe_fields.specs.Parting.{end_from}
use Rattle.oe_fields.proofs.fields.end_behind.Given as goal

-- the field goes on up to here
abbrev pub invariant-loop-i : goal.invariant-loop-i
invariant-loop-i l =
    l.start + end_from l.format false (drop l.start l.text) ≡ l.i + end_from l.format l.is_held (drop l.i l.text)
