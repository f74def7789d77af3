use Rattle.std.proofs.Common.{refl}
use Rattle.oe_file_serial.specs.declared.reasons.Behind.TheVariants as behind
use Rattle.oe_file_serial.proofs.ReasonFacts.{read_why}
use Rattle.oe_file_serial.proofs.reasons.why_opening.Goals as goal

pub returns-in-OfScale : goal.returns-in-OfScale
returns-in-OfScale c = read_why c.args.line.now behind.Nothing c.args.line.now c.why_read.result refl c.why_read.ensures
