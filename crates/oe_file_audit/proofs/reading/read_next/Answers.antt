use Rattle.oe_file_audit.proofs.ReadFacts.{tables_more}
use Rattle.oe_file_audit.proofs.reading.read_next.Goals as goal

pub returns-in-Some-clause-read : goal.returns-in-Some-clause-read
returns-in-Some-clause-read g c given sources before =
    tables_more g.S.Read.remaining c.args.wanted c.args.format given sources c.args.source
    c.args.so_far c.in-Some.spelled c.in-Ok.taken before c.in-Ok.ensures c.in-Some.ensures.0 c.in-Some.ensures.1
