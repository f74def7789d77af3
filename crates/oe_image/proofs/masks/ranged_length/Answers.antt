-- A number has as many bytes as it is given.
use Rattle.std.proofs.Common.{sym}
use Rattle.byteorder.specs.Numbers.{length-bytes_high_first}
use Rattle.oe_image.proofs.masks.ranged_length.Goals as goal

pub returns-in-Some-clause-value : goal.returns-in-Some-clause-value
returns-in-Some-clause-value g c = rw c.in-Some.is (sym (length-bytes_high_first c.args.width c.in-Some.field-0))
