use Rattle.std.proofs.Common.{◌≡◌, codes, slice_index, sym, ◌∙◌, rules, arith}
use Rattle.oe_command_line.specs.Words.{IsPlain}
use Rattle.oe_command_line.proofs.WordFacts.{serial_file, serial_options, no_serial, no_option}
use Rattle.oe_command_line.proofs.serial_of.Goals as goal

pub returns-in-Some : goal.returns-in-Some
returns-in-Some g c =
    let said : c.as_str.result.now ≡ codes "serial" = search rules in
    let long = c.if-words-lt3.false in
    serial_file g.S.AsStr.text c.args.words.now c.index-words-1.result c.in-Some.file (omega (arith, long))
    c.index-words-1.is (sym c.as_str.ensures ∙ said) c.in-Some.ensures

pub returns-then-is_option : goal.returns-then-is_option
returns-then-is_option g c =
    let option : slice_index c.as_str-file.result.now 0 ≡ 45 = search rules in
    let long = c.if-words-lt3.false in
    no_option g.S.AsStr.text c.args.words.now c.index-words-2.result c.as_str-file.result (omega (arith, long))
    c.in_default.ensures c.index-words-2.is c.as_str-file.ensures option

pub returns-in-Some-serial_options_of : goal.returns-in-Some-serial_options_of
returns-in-Some-serial_options_of g c =
    let said : c.as_str.result.now ≡ codes "serial" = search rules in
    let plain : IsPlain c.as_str-file.result.now = search rules in
    let long = c.if-words-lt3.false in
    let options = c.in-Some-serial_options_of.options in
    serial_options g.S.AsStr.text c.args.words.now c.index-words-1.result c.index-words-2.result c.as_str-file.result
    options.from options.tables options.separator (omega (arith, long)) c.index-words-1.is
    (sym c.as_str.ensures ∙ said) c.index-words-2.is c.as_str-file.ensures plain c.in-Some-serial_options_of.ensures

pub returns-in-None : goal.returns-in-None
returns-in-None g c = no_serial g.S.AsStr.text c.args.words.now c.in_default.ensures c.in-None.ensures
