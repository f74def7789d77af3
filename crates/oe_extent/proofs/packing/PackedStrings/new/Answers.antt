-- Nothing fills no bytes.
use Rattle.std.proofs.Common.{refl, arith}
use Rattle.oe_extent.proofs.PackedFacts.{AreStrings-none}
use Rattle.oe_extent.specs.Strings.{last_strings}
use Rattle.oe_extent.proofs.packing.PackedStrings.new.Goals as goal

pub invariant_of-result : goal.invariant_of-result
invariant_of-result c = record {
  small = omega arith;
  size = omega (arith, c.in_ok-resize.ensures.len);
  strings = AreStrings-none;
}

pub returns : goal.returns
unfolding last_strings
returns c = refl
