use Rattle.std.proofs.Common.{List, ℕ, ◌++◌, length, ap, ◌∙◌, arith}
use Rattle.oe_texts.specs.Refusal.{error_text}
use Rattle.oe_file_serial.proofs.AnswerFacts.{error_framed}
use Rattle.oe_file_serial.proofs.answers.write_refusal.Goals as goal

pub inner-requires : goal.inner-requires
inner-requires c = (
  error_text c.args.refusal.now,
  error_framed c.as_slice.result.now c.new-line.result.items c.args.refusal.now c.new-line.ensures
      (c.as_slice.ensures.value ∙ c.refused.ensures.items),
)

pub put-requires : goal.put-requires
put-requires c =
    let short = c.inner.ensures.short in
    let value = ap length c.as_slice.ensures.value in
    let len = c.refused.ensures.len in
    let new = ap length c.new-line.ensures in
    let empty = ap length c.requires in
    omega (arith, short, value, len, new, empty)

pub returns : goal.returns
returns c =
    c.put.ensures ∙ (ap (λ (z : List ℕ). z ++ c.inner.result.now) c.requires
    ∙ c.inner.ensures.text (error_text c.args.refusal.now)
    (error_framed c.as_slice.result.now c.new-line.result.items c.args.refusal.now c.new-line.ensures
    (c.as_slice.ensures.value ∙ c.refused.ensures.items)))
