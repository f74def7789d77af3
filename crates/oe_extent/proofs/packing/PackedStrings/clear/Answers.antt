-- Nothing fills no bytes.
use Rattle.std.proofs.Common.{refl, arith}
use Rattle.oe_extent.proofs.PackedFacts.{AreStrings-none}
use Rattle.oe_extent.specs.Strings.{last_strings}
use Rattle.oe_extent.proofs.packing.PackedStrings.clear.Goals as goal

pub invariant_of-self : goal.invariant_of-self
invariant_of-self c = record { small = omega arith; size = c.self.invariant.size; strings = AreStrings-none }

pub returns : goal.returns
unfolding last_strings
returns c = refl
