use Rattle.std.proofs.Common.{ℕ, Option, subst, sym}
use Rattle.std.proofs.lemmas.Result.{on_ok_weaker}
use Rattle.oe_earlier.specs.Keeping.{KeepsTraces}
use Rattle.oe_file_audit.specs.Reading.{printed_by}
use Rattle.oe_file_audit.proofs.reading.keep.Goals as goal

pub returns-in-Some : goal.returns-in-Some
returns-in-Some c = on_ok_weaker c.take.result
    (λ takes t h.
    subst (λ (p : Option ℕ). KeepsTraces (printed_by t c.args.row.now.fact p) c.take.new.self) (sym c.in-Some.is)
    (takes t h)) c.take.ensures
