use Rattle.std.proofs.Common.{subst, sym}
use Rattle.std.proofs.lemmas.Result.{on_ok_weaker}
use Rattle.oe_earlier.specs.Keeping.{KeepsTraces}
use Rattle.oe_earlier.specs.Traces.{Traced}
use Rattle.oe_books.specs.Facts.{Facts, facts_by_table}
use Rattle.oe_books.specs.Keeping.{Keeps}
use Rattle.oe_file_audit.specs.Reading.{facts_of, prints_of}
use Rattle.oe_file_audit.proofs.ReadFacts.{parted_push, prints_push}
use Rattle.oe_file_audit.proofs.reading.EnteredLedger.take.Goals as goal

pub returns : goal.returns
returns c = on_ok_weaker c.take.result
    (λ takes given rows holds. record {
      books = subst (λ (t : Facts). Keeps given t c.take.new.self) (sym (parted_push rows c.args.row.now))
          (takes given (facts_by_table (facts_of rows)) holds.books);
      traces = subst (λ (t : Traced). KeepsTraces t c.keep.new.traces) (sym (prints_push rows c.args.row.now))
          (c.in_default.ensures (prints_of rows) holds.traces);
    }) c.take.ensures.keeps
