use Rattle.oe_file_audit.proofs.BehindFacts.{both_there}
use Rattle.oe_file_audit.proofs.reading.Entered.joined.Goals as goal

pub returns-in-Some : goal.returns-in-Some
returns-in-Some c =
    let both =
    both_there _ _ c.append_apart.result c.append-printed.result c.and.result _ c.and.ensures c.in-Some.is
    c.append_apart.ensures.keeps c.append-printed.ensures in
    record { books = both.0; traces = both.1 }
