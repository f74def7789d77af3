use Rattle.std.proofs.Common.{List, ℕ, ◌++◌, ap, ◌∙◌}
use Rattle.oe_file_serial.specs.BadTexts.{bad_line_text}
use Rattle.oe_file_serial.proofs.SentFacts.{streamed}
use Rattle.oe_file_serial.proofs.faults.write_bad_line.Goals as goal

pub returns : goal.returns
returns g c = streamed _ _ _ _ _ _ c.flush.ensures.empty
    (c.bad_line.ensures ∙ ap (λ (z : List ℕ). z ++ bad_line_text c.args.bad.now) c.new-out.ensures)
    c.flush.ensures.stream
