use Rattle.std.proofs.Common.{◌≡◌, ◌≢◌, sym, ◌∙◌, rules, arith}
use Rattle.oe_command_line.proofs.WordFacts.{two_first, not_first, not_two}
use Rattle.oe_command_line.proofs.behind.Goals as goal
use Rattle.oe_command_line.proofs.behind.Goals.{then-words-lt2-via-then-words-lt2}
use Rattle.oe_command_line.proofs.behind.Goals.{then-words-lt2-via-else-words-lt2+then-ne}

pub returns-then-words-lt2 : goal.returns-then-words-lt2
returns-then-words-lt2 g c word rest e = elim c.then-words-lt2.branch [
  | then-words-lt2-via-then-words-lt2 w ↦
      let short = w.if-words-lt2.true in
      not_two g.S.AsStr.text c.args.words.now c.args.mark.now word rest (omega (arith, short)) e
  | then-words-lt2-via-else-words-lt2+then-ne w ↦
      let other : w.as_str.result.now ≢ c.args.mark.now = search rules in
      not_first g.S.AsStr.text c.args.words.now w.index-words-0.result c.args.mark.now word rest w.index-words-0.is
      (λ same. other (w.as_str.ensures ∙ same)) e
]

pub returns : goal.returns
returns g c =
    let said : c.as_str.result.now ≡ c.args.mark.now = search rules in
    let long = c.if-words-lt2.false in
    two_first g.S.AsStr.text c.args.words.now c.index-words-0.result c.index-words-1.result c.args.mark.now
    c.as_str-2.result (omega (arith, long)) c.index-words-0.is (sym c.as_str.ensures ∙ said) c.index-words-1.is
    c.as_str-2.ensures
