use Rattle.oe_decode.specs.ColumnFacts.{checked_is}
use Rattle.oe_file_rows.proofs.words.text.Goals as goal

pub returns : goal.returns
returns g c = checked_is _ _ _ _ c.read_bytes.ensures.variant.0 c.read_bytes.ensures.variant.1
    c.read_bytes.ensures.value
