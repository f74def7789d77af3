use Rattle.std.proofs.Common.{subst}
use Rattle.std.proofs.lemmas.Result.{on_ok_weaker}
use Rattle.oe_store.specs.KeyWalk.{placed_keys}
use Rattle.oe_engine.proofs.OpenFacts.{IsLinkingKeys, next_waits, waiting_linked}
use Rattle.oe_engine.proofs.opening.link_table.Goals as goal

pub loop-key-preserved : goal.loop-key-preserved
loop-key-preserved c =
    next_waits c.args.undo.now c.loop-key.undo c.link_before.new.undo c.loop-key.waiting c.in-Some.key c.next.new.self
    (placed_keys c.args.table c.args.tables.now)
    c.link_before.ensures.log c.link_before.ensures.kept c.in_ok-link_before.ensures.covered
    (subst (λ ks. IsLinkingKeys c.args.undo.now c.loop-key.undo c.loop-key.waiting ks
    (placed_keys c.args.table c.args.tables.now)) c.in-Some.ensures.steps c.loop-key.invariant)

pub returns-clause-linked : goal.returns-clause-linked
returns-clause-linked c =
    on_ok_weaker c.link_last.result
    (λ has. waiting_linked c.args.undo.now c.loop-key.undo c.link_last.new.undo c.loop-key.waiting
    (placed_keys c.args.table c.args.tables.now) c.link_last.ensures.kept has
    (subst (λ ks. IsLinkingKeys c.args.undo.now c.loop-key.undo c.loop-key.waiting ks
    (placed_keys c.args.table c.args.tables.now)) c.in-None.ensures.steps.0 c.loop-key.invariant))
    c.link_last.ensures.given
