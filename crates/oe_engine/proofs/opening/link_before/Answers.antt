use Rattle.std.proofs.Common.{◌∙◌, sym}
use Rattle.oe_engine.proofs.OpenFacts.{waits_covered, placed_covered}
use Rattle.oe_engine.proofs.opening.link_before.Goals as goal

pub returns-then-comes_with-clause-covered : goal.returns-then-comes_with-clause-covered
returns-then-comes_with-clause-covered c =
    waits_covered c.args.undo.now.links c.args.waiting.now c.in-Some.key c.args.next.now c.in-Some.is
    (sym c.comes_with.ensures ∙ c.if-comes_with.true)

pub returns-clause-covered : goal.returns-clause-covered
returns-clause-covered c =
    placed_covered c.add_place.result c.add_place.new.self.links c.args.waiting.now c.in-Some.key c.args.next.now
    c.in-Some.is c.add_place.ensures.own
