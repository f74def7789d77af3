use Rattle.std.proofs.Common.{[]}
use Rattle.std.specs.Prelude.{unwrap_or}
use Rattle.oe_file_audit.specs.Reading.{prints_of}
use Rattle.oe_file_audit.proofs.audits.judge_sound.Goals as goal

pub judge_books-judged-requires-clause-books : goal.judge_books-judged-requires-clause-books
judge_books-judged-requires-clause-books g c = (c.requires.0, c.requires.1.books)

pub returns : goal.returns
returns g c of_earlier rows earlier holds =
    c.judge_books-judged.ensures of_earlier rows holds.books earlier.asked
    (c.of-compared.ensures.keeps (prints_of (unwrap_or of_earlier [])) (prints_of rows) earlier.traces holds.traces)
