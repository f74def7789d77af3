-- As many strings as were counted.
use Rattle.std.proofs.Common.{take, sym}
use Rattle.oe_extent.proofs.PackedFacts.{length-cut}
use Rattle.oe_extent.proofs.packing.PackedStrings.len.Goals as goal

pub returns : goal.returns
returns c =
    rw (← c.self.view_is) (sym (length-cut c.self.inside.count (take c.self.inside.fill c.self.inside.bytes.items)))
