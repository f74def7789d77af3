use Rattle.std.proofs.Common.{◌≢◌, length, map, rules}
use Rattle.oe_command_line.proofs.WordFacts.{no_file, not_none}
use Rattle.oe_command_line.proofs.opened_file_of.Goals as goal

pub returns-in-None : goal.returns-in-None
returns-in-None g c =
    let some : length c.args.words.now ≢ 0 = search rules in
    no_file c.args.directory.now c.args.extents c.args.layout (map g.S.AsStr.text c.args.words.now)
    (not_none g.S.AsStr.text c.args.words.now some) c.in-None.ensures
