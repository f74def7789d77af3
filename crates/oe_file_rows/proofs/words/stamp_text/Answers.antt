use Rattle.oe_lines.proofs.StampFacts.{stamp_of-read}
use Rattle.oe_file_rows.proofs.words.stamp_text.Goals as goal

pub returns : goal.returns
returns c = stamp_of-read c.args.text.now c.read_bytes.result c.read_bytes.ensures.some c.read_bytes.ensures.reads
