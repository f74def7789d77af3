use Rattle.oe_values.proofs.TextFacts.{IsUtf8-printable}
use Rattle.oe_values.proofs.texts.ascii.Goals as goal

pub from_utf8_unchecked-requires : goal.from_utf8_unchecked-requires
from_utf8_unchecked-requires c = IsUtf8-printable c.args.bytes.now c.requires
