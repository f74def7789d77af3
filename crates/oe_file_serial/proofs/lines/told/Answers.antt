use Rattle.std.proofs.Common.{ℕ, List, ◌++◌, codes, sym, ap, ◌∙◌}
use Rattle.oe_theory.proofs.Sets.{some_none}
use Rattle.oe_values.specs.Front.{after_of}
use Rattle.oe_values.proofs.FrontFacts.{after_only}
use Rattle.oe_reply_words.proofs.PartFacts.{parted_once, parted_not_without}
use Rattle.oe_file_serial.proofs.lines.told.Goals as goal

pub returns-in_default : goal.returns-in_default
returns-in_default c = λ words text p. parted_not_without 61 _ _ _ p c.in_default.ensures

pub returns-in_default-before_blank : goal.returns-in_default-before_blank
returns-in_default-before_blank c = λ words text p. c.in_default-before_blank.ensures words
    (parted_once 61 c.args.line.now c.in-Some.front.now (words ++ codes " ") c.in-Some.back.now (codes "> " ++ text)
    c.in-Some.ensures p).0

pub returns-in_default-after : goal.returns-in_default-after
returns-in_default-after c = λ words text p.
    let same = (parted_once 61 c.args.line.now c.in-Some.front.now (words ++ codes " ") c.in-Some.back.now
    (codes "> " ++ text) c.in-Some.ensures p).1 in
    some_none text
    (sym (after_only (codes "> ") text)
    ∙ (ap (λ (z : List ℕ). after_of (codes "> ") z) (sym same) ∙ sym c.in_default-after.ensures))
