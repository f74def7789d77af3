use Rattle.oe_file_audit.proofs.BehindFacts.{put_both}
use Rattle.oe_file_audit.proofs.reading.put_behind.Goals as goal

pub returns-in-Some-clause-read : goal.returns-in-Some-clause-read
returns-in-Some-clause-read c =
    put_both c.args.so_far c.args.own c.in-Ok.so_far c.in-Ok-own.taken c.in-Some.both c.in-Ok.is c.in-Ok-own.is
    c.in-Some.ensures
