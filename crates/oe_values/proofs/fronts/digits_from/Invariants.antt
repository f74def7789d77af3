use Rattle.std.proofs.Common.{◌≡◌, ◌<◌, ◌^◌, drop}
use Rattle.oe_values.specs.Front.{digits_from}
use Rattle.oe_values.proofs.fronts.digits_from.Given as goal

-- the digits so far are in the value
abbrev pub invariant-loop-i : goal.invariant-loop-i
invariant-loop-i l = record {
  same : digits_from l.fn.start l.text ≡ digits_from l.value (drop l.i l.text);
  small : l.value < 10 ^ 15;
}
