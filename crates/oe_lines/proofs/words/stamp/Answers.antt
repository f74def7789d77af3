use Rattle.std.proofs.Common.{sym}
use Rattle.oe_lines.proofs.StampFacts.{stamp_of-read, stamp_of-other_length}
use Rattle.oe_lines.proofs.words.stamp.Goals as goal

pub returns-then-text-ne19 : goal.returns-then-text-ne19
returns-then-text-ne19 c = sym (stamp_of-other_length c.args.text.now c.if-text-ne19.true)

pub returns : goal.returns
returns c = stamp_of-read c.args.text.now c.read_bytes.result c.read_bytes.ensures.some c.read_bytes.ensures.reads
