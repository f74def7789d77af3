use Rattle.std.proofs.Common.{map}
use Rattle.oe_command_line.proofs.WordFacts.{before_named, no_before_named}
use Rattle.oe_command_line.proofs.behind_source.Goals as goal

pub returns-in_default : goal.returns-in_default
returns-in_default g c =
    before_named (map g.S.AsStr.text c.args.words.now) (map g.S.AsStr.text c.in-Some.rest.now) c.in-Some.before
    c.in-Some.ensures.0 c.in-Some.ensures.1 c.in_default.ensures

pub returns-in_default-audited : goal.returns-in_default-audited
returns-in_default-audited g c =
    no_before_named (map g.S.AsStr.text c.args.words.now) c.in-None.ensures c.in_default-audited.ensures
