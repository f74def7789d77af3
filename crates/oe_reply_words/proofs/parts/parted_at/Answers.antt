use Rattle.std.proofs.Common.{List, ℕ, ◌+◌, take, sym, subst}
use Rattle.std.proofs.lemmas.List.{take_rest}
use Rattle.oe_reply_words.specs.Parts.{IsParted}
use Rattle.oe_reply_words.proofs.PartFacts.{parted_by, without_byte}
use Rattle.oe_reply_words.proofs.parts.parted_at.Goals as goal

pub returns-in-Some : goal.returns-in-Some
returns-in-Some c =
    subst (λ (z : List ℕ). IsParted c.args.mark c.args.bytes.now (take c.in-Some.at c.args.bytes.now) z)
    (sym (take_rest c.args.bytes.now (c.in-Some.at + 1)))
    (parted_by c.args.mark c.args.bytes.now c.in-Some.at c.in-Some.ensures)

pub returns-in-None : goal.returns-in-None
returns-in-None c = without_byte c.args.mark c.args.bytes.now c.in-None.ensures
