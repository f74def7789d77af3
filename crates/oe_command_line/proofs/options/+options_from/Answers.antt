use Rattle.std.proofs.Common.{rules, arith}
use Rattle.oe_command_line.proofs.OptionFacts.{flag_first, word_first, one_word, no_option}
use Rattle.oe_command_line.proofs.options.+options_from.Goals as goal

pub returns-in-Some : goal.returns-in-Some
returns-in-Some g t c = flag_first g.S.AsStr.text c.args.so_far c.in-Some.next c.args.words.now c.index-words-0.result
    c.as_str.result.now c.options_from.result (search rules) c.index-words-0.is c.as_str.ensures c.in-Some.ensures
    c.options_from.ensures

pub returns-then-words-lt2 : goal.returns-then-words-lt2
returns-then-words-lt2 g t c =
    let short = c.if-words-lt2.true in
    one_word g.S.AsStr.text c.args.so_far c.args.so_far c.args.words.now c.index-words-0.result c.as_str.result.now
    (omega (arith, short)) (search rules) c.index-words-0.is c.as_str.ensures c.in_default.ensures

pub returns-in-Some-with_word : goal.returns-in-Some-with_word
returns-in-Some-with_word g t c =
    let long = c.if-words-lt2.false in
    word_first g.S.AsStr.text c.args.so_far c.in-Some-with_word.next c.args.words.now c.index-words-0-2.result
    c.index-words-1.result c.as_str-2.result.now c.as_str-3.result.now c.options_from-in-Some-with_word.result
    (omega (arith, long)) c.index-words-0-2.is c.as_str-2.ensures c.index-words-1.is c.as_str-3.ensures
    c.in-Some-with_word.ensures c.options_from-in-Some-with_word.ensures

pub returns-in-None : goal.returns-in-None
returns-in-None g t c =
    let long = c.if-words-lt2.false in
    no_option g.S.AsStr.text c.args.so_far c.args.so_far c.args.words.now c.index-words-0.result
    c.index-words-0-2.result c.index-words-1.result c.as_str.result.now c.as_str-2.result.now c.as_str-3.result.now
    (omega (arith, long)) c.index-words-0.is c.as_str.ensures c.index-words-0-2.is c.as_str-2.ensures
    c.index-words-1.is c.as_str-3.ensures c.in_default.ensures c.in-None.ensures
