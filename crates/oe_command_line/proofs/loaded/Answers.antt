use Rattle.std.proofs.Common.{map}
use Rattle.oe_command_line.proofs.WordFacts.{loaded_of}
use Rattle.oe_command_line.proofs.loaded.Goals as goal

pub returns : goal.returns
returns g c = loaded_of (map g.S.AsStr.text c.args.words.now) c.args.requests c.in-Some.options c.load_options.result
    c.in-Some.ensures c.load_options.ensures
