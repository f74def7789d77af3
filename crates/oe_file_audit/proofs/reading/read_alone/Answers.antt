use Rattle.oe_file_audit.proofs.BehindFacts.{alone}
use Rattle.oe_file_audit.proofs.reading.read_alone.Goals as goal

pub returns-in-Ok-clause-read : goal.returns-in-Ok-clause-read
returns-in-Ok-clause-read g c =
    alone g.S.Read.remaining c.args.wanted c.args.format c.args.source c.new-entered.result c.in-Ok.taken
    c.new-entered.ensures c.in-Ok.ensures
