use Rattle.std.proofs.Common.{sym}
use Rattle.std.proofs.lemmas.Result.{on_ok_weaker}
use Rattle.oe_file_tables.proofs.ReadFacts.{stands_in}
use Rattle.oe_file_tables.proofs.lines.TableLinesLineTakerLINE.take_line.Goals as goal

pub returns : goal.returns
returns g c = on_ok_weaker c.take_line.result
    (λ f start ls s.
    (s.0, s.1, s.2, stands_in s.2 (f start.faults.now ls (stands_in (sym s.2) s.3))))
    c.take_line.ensures
