use Rattle.std.proofs.Common.{◌++◌, ◌∷◌, [], ap, ◌∙◌}
use Rattle.oe_file_audit.proofs.ReadFacts.{dump_read}
use Rattle.oe_file_audit.proofs.reading.read_one.Goals as goal

pub returns-in-Some-clause-read : goal.returns-in-Some-clause-read
returns-in-Some-clause-read g c =
    dump_read c.args.wanted c.args.given (g.S.Read.remaining c.args.source)
    c.new-entered.result c.in-Ok.taken c.in-Some.spelled c.new-entered.ensures c.in-Ok.ensures
    c.in-Some.ensures.0
    (c.in-Some.ensures.1 ∙ ap (λ told. told ++ c.in-Ok.taken.faults ∷ []) c.new.ensures.items)
