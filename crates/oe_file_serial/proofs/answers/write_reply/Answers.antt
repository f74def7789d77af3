use Rattle.std.proofs.Common.{List, ℕ, ◌++◌, length, ap, ◌∙◌, arith}
use Rattle.oe_texts.specs.Reply.{reply_text}
use Rattle.oe_file_serial.proofs.AnswerFacts.{reply_framed}
use Rattle.oe_file_serial.proofs.answers.write_reply.Goals as goal

pub inner-requires : goal.inner-requires
inner-requires g c =
    let y = c.requires.reply in (
      reply_text y.0,
      reply_framed c.as_slice.result.now c.as_slice-2.result.now c.new-line.result.items c.new-front.result.items
          c.args.moment y.0 c.new-line.ensures
          (c.as_slice.ensures.value ∙ c.commit_line.ensures.items y.0 y.1) c.new-front.ensures
          (c.as_slice-2.ensures.value ∙ c.commit_front.ensures),
    )

pub put-requires : goal.put-requires
put-requires g c =
    let short = c.inner.ensures.short in
    let value = ap length c.as_slice.ensures.value in
    let len = c.commit_line.ensures.len in
    let new = ap length c.new-line.ensures in
    let empty = ap length c.requires.empty in
    omega (arith, short, value, len, new, empty)

pub returns : goal.returns
returns g c = λ y e.
    c.put.ensures ∙ (ap (λ (z : List ℕ). z ++ c.inner.result.now) c.requires.empty
    ∙ c.inner.ensures.text (reply_text y)
    (reply_framed c.as_slice.result.now c.as_slice-2.result.now c.new-line.result.items c.new-front.result.items
    c.args.moment y c.new-line.ensures (c.as_slice.ensures.value ∙ c.commit_line.ensures.items y e) c.new-front.ensures
    (c.as_slice-2.ensures.value ∙ c.commit_front.ensures)))
