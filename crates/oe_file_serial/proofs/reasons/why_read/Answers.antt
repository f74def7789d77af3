use Rattle.std.proofs.Common.{ℕ, List, ◌++◌, refl, subst, ◌∙◌}
use Rattle.std.specs.Prelude.{Bool}
use Rattle.oe_reasons.specs.Reasons.{IsReason}
use Rattle.oe_file_serial.specs.Files.{front_text}
use Rattle.oe_file_serial.proofs.reasons.why_read.Goals as goal

pub returns-in-Some : goal.returns-in-Some
returns-in-Some c = (
  refl,
  refl,
  subst (λ (o : Bool). IsReason o (front_text c.args.behind ++ c.args.words.now) c.in-Some.reason) c.is_open.ensures
      (subst (λ (z : List ℕ). IsReason c.is_open.result z c.in-Some.reason)
      (c.as_slice.ensures.value ∙ c.read-line.ensures.items) c.in-Some.ensures.why),
)
