use Rattle.std.proofs.Common.{refl, rules}
use Rattle.oe_command_line.specs.declared.options.Mark.TheVariants as mark
use Rattle.oe_command_line.proofs.OptionFacts.{word_adds}
use Rattle.oe_command_line.proofs.options.with_word.Goals as goal

pub returns-in-Some-First : goal.returns-in-Some-First
returns-in-Some-First c = word_adds mark.First mark.First c.args.o.now c.args.name.now c.args.word.now
    c.with_first.result (search rules) refl c.with_first.ensures

pub returns-in-Some-Initial : goal.returns-in-Some-Initial
returns-in-Some-Initial c = word_adds mark.Initial mark.Initial c.args.o.now c.args.name.now c.args.word.now
    c.with_initial.result (search rules) refl c.with_initial.ensures

pub returns-in-Some-Kinds : goal.returns-in-Some-Kinds
returns-in-Some-Kinds c = word_adds mark.Kinds mark.Kinds c.args.o.now c.args.name.now c.args.word.now
    c.with_kinds.result (search rules) refl c.with_kinds.ensures
