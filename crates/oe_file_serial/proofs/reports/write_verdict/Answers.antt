use Rattle.oe_file_serial.proofs.SentFacts.{streamed}
use Rattle.oe_file_serial.proofs.reports.write_verdict.Goals as goal

pub returns : goal.returns
returns g c = streamed _ _ _ _ _ _ c.flush.ensures.empty c.tell.ensures c.flush.ensures.stream
