use Rattle.oe_file_serial.proofs.AloneLaw.{alone_is_whole}
use Rattle.oe_file_serial.proofs.law_alone.Goals as goal

pub returns : goal.returns
returns c = alone_is_whole
