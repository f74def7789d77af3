use Rattle.std.proofs.lemmas.Bool.{le-leb}
use Rattle.oe_terms.proofs.ChainFacts.{named_choice}
use Rattle.oe_terms.proofs.columns.choice.Goals as goal

pub returns-then-random-le60 : goal.returns-then-random-le60
returns-then-random-le60 c = named_choice c.args.customers c.args.words.now _ _ _ _ c.random.ensures.drawn
    (le-leb _ _ c.if-random-le60.true) c.name_drawn.ensures
