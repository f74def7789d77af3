-- Nothing fills no bytes.
use Rattle.std.proofs.Common.{refl}
use Rattle.oe_extent.proofs.PackedFacts.{AreStrings-none}
use Rattle.oe_extent.specs.Strings.{last_strings}
use Rattle.oe_extent.proofs.walks.ExtentStrings.none.Goals as goal

pub invariant_of-result : goal.invariant_of-result
invariant_of-result c = AreStrings-none

pub returns : goal.returns
unfolding last_strings
returns c = refl
