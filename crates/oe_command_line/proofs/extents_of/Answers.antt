use Rattle.std.proofs.Common.{map, rules}
use Rattle.oe_command_line.proofs.WordFacts.{without_extents, with_extents}
use Rattle.oe_command_line.proofs.extents_of.Goals as goal

pub returns-in_default : goal.returns-in_default
returns-in_default g c =
    without_extents c.args.directory.now (map g.S.AsStr.text c.args.words.now) c.unwrap-all.result c.layout_of.result
    (search rules) c.in_default.ensures c.layout_of.ensures

pub returns-in-Some-number_of : goal.returns-in-Some-number_of
returns-in-Some-number_of g c =
    with_extents c.args.directory.now (map g.S.AsStr.text c.args.words.now) c.in-Some.word.now
    (map g.S.AsStr.text c.in-Some.rest.now) c.in-Some-number_of.extents c.layout_of-in-Some-number_of.result
    c.in-Some.ensures c.in-Some-number_of.ensures.some.0 c.in-Some-number_of.ensures.some.1
    c.layout_of-in-Some-number_of.ensures
