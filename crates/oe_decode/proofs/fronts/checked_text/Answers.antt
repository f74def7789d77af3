-- The test says what is read.
use Rattle.oe_decode.specs.ColumnFacts.{checked_is}
use Rattle.oe_decode.proofs.fronts.checked_text.Goals as goal

pub returns : goal.returns
returns g c = checked_is _ _ _ _ c.read_bytes.ensures.variant.0 c.read_bytes.ensures.variant.1
    c.read_bytes.ensures.value
