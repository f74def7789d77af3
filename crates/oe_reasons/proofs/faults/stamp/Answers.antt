use Rattle.std.proofs.Common.{sym}
use Rattle.oe_lines.proofs.StampFacts.{stamp_of-read, stamp_of-other_length}
use Rattle.oe_reasons.proofs.faults.stamp.Goals as goal

pub returns-then-word-ne19 : goal.returns-then-word-ne19
returns-then-word-ne19 c = sym (stamp_of-other_length c.args.word.now c.if-word-ne19.true)

pub returns : goal.returns
returns c = stamp_of-read c.args.word.now c.read_bytes.result c.read_bytes.ensures.some c.read_bytes.ensures.reads
