use Rattle.oe_file_audit.proofs.BehindFacts.{with_both}
use Rattle.oe_file_audit.proofs.reading.with_alone.Goals as goal

pub returns-in-Some : goal.returns-in-Some
returns-in-Some c =
    with_both c.args.so_far c.args.own c.in-Some.both c.with_source.result c.in-Some.ensures c.with_source.ensures
