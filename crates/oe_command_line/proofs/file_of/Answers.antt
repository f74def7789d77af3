use Rattle.oe_command_line.proofs.WordFacts.{file_named}
use Rattle.oe_command_line.proofs.file_of.Goals as goal

pub returns : goal.returns
returns g c = file_named g.S.AsStr.text c.args.words.now c.name_of.result c.requires c.name_of.ensures
