use Rattle.std.proofs.Common.{List, ℕ, ◌++◌, length, ap, ◌∙◌, arith}
use Rattle.oe_deeds.specs.Files.{reply_line}
use Rattle.oe_deeds.proofs.FileFacts.{reply_framed}
use Rattle.oe_deeds.proofs.files.reply_line.Goals as goal

pub behind-requires : goal.behind-requires
behind-requires c = (
  reply_line c.args.commit.now.reply,
  reply_framed c.as_slice.result.now c.as_slice-2.result.now c.new-line.result.items c.new-front.result.items
      c.args.commit.now.moment c.copied.result c.args.commit.now.reply c.new-line.ensures c.copied.ensures
      (c.as_slice.ensures.value ∙ c.answer.ensures.items) c.new-front.ensures
      (c.as_slice-2.ensures.value ∙ c.commit_front.ensures),
)

pub text-requires : goal.text-requires
text-requires c =
    let short = c.behind.ensures.short in
    let value = ap length c.as_slice.ensures.value in
    let len = c.answer.ensures.len in
    let new = ap length c.new-line.ensures in
    let room = c.requires in
    omega (arith, short, value, len, new, room)

pub returns : goal.returns
returns c =
    c.text.ensures.items ∙ ap (λ (z : List ℕ). c.args.out.now.items ++ z)
    (c.behind.ensures.rest (reply_line c.args.commit.now.reply)
    (reply_framed c.as_slice.result.now c.as_slice-2.result.now c.new-line.result.items c.new-front.result.items
    c.args.commit.now.moment c.copied.result c.args.commit.now.reply c.new-line.ensures c.copied.ensures
    (c.as_slice.ensures.value ∙ c.answer.ensures.items) c.new-front.ensures
    (c.as_slice-2.ensures.value ∙ c.commit_front.ensures)))
