use Rattle.std.proofs.Common.{◌++◌, codes}
use Rattle.std.specs.Prelude.{decimal}
use Rattle.oe_texts.specs.Key.{key_text}
use Rattle.oe_reply_words.proofs.PartFacts.{and_then}
use Rattle.oe_reply_words.proofs.rows.tell_change.Goals as goal

pub returns-clause-items : goal.returns-clause-items
returns-clause-items c =
    let o = c.args.out.now.items in
    let row = key_text c.args.change.now.row in
    let middle = codes " was changed last by line " in
    let line = decimal c.args.change.now.line in
    let two = and_then o (codes " (") row c.text.new.out.items c.row.new.out.items c.text.ensures.items
    c.row.ensures.items in
    let three = and_then o (codes " (" ++ row) middle c.row.new.out.items c.text-2.new.out.items two
    c.text-2.ensures.items in
    let four = and_then o (codes " (" ++ row ++ middle) line c.text-2.new.out.items c.decimal.new.out.items three
    c.decimal.ensures.items in
    and_then o (codes " (" ++ row ++ middle ++ line) (codes ")") c.decimal.new.out.items c.text-3.new.out.items four
    c.text-3.ensures.items
