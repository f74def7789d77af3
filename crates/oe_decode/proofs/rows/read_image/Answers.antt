-- The key is read, and the row behind it.
use Rattle.oe_decode.proofs.RowFacts.{both_read}
use Rattle.oe_decode.proofs.rows.read_image.Goals as goal

pub returns : goal.returns
returns c =
    both_read c.args.table c.args.bytes.now c.in-Some.rest.now c.in-Some-read_row.field-0-1.now c.in-Some.key
    c.in-Some-read_row.row c.image_length-length.result
    c.in-Some.ensures c.in-Some-read_row.ensures c.image_length-length.ensures
