use Rattle.oe_reply_words.proofs.PartFacts.{parted, unparted}
use Rattle.oe_reply_words.proofs.parts.next_part.Goals as goal

pub returns-in-Some-clause-parts : goal.returns-in-Some-clause-parts
returns-in-Some-clause-parts c =
    parted c.args.mark c.args.bytes.now c.in-Some.part.now c.in-Some.rest.now c.in-Some.ensures

pub returns-in-None-clause-parts : goal.returns-in-None-clause-parts
returns-in-None-clause-parts c = unparted c.args.mark c.args.bytes.now c.in-None.ensures
