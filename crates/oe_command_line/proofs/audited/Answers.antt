use Rattle.std.proofs.Common.{map}
use Rattle.oe_command_line.proofs.WordFacts.{audited_of}
use Rattle.oe_command_line.proofs.audited.Goals as goal

pub returns : goal.returns
returns g c = audited_of (map g.S.AsStr.text c.args.words.now) c.in-Some.options c.audit_options.result
    c.in-Some.ensures c.audit_options.ensures
