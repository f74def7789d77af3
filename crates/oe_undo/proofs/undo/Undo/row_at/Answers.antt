use Rattle.std.proofs.Common.{◌≡◌, refl, sym, ap, ◌∙◌, arith}
use Rattle.oe_model.specs.Changes.{restore}
use Rattle.oe_undo.specs.Undo.{link_seen}
use Rattle.oe_undo.proofs.ChainedLinkFacts.{chains_are_walked}
use Rattle.oe_undo.proofs.WalkFacts.{goes_first, stands_there, goes_on, leaves_fewer}
use Rattle.oe_undo.proofs.undo.Undo.row_at.Goals as goal

pub loop-link-init : goal.loop-link-init
loop-link-init c =
    let link : c.link-link.result ≡ link_seen c.args.self.now c.args.key.now = c.link-link.ensures in
    let walks = chains_are_walked c.args.self.now.log
    (link_seen c.args.self.now) c.args.key.now c.args.moment c.args.now
    c.is_chained.ensures.whole c.is_chained.ensures.chained c.requires in
    goes_first _ _ _ _ _ _ _ _ (rw link walks) refl (omega (arith, c.records-known.ensures))

pub read_record-previous-requires : goal.read_record-previous-requires
read_record-previous-requires c = stands_there _ _ _ _ _ _ _ _ _ c.in-Some.is
    (sym c.is_later.ensures ∙ c.if-not-is_later.false) c.loop-link.invariant

pub loop-link-smaller : goal.loop-link-smaller
loop-link-smaller c =
    leaves_fewer _ _ _ _ _ _ _ _ _ _ _ _ c.in-Some.is (sym c.is_later.ensures ∙ c.if-not-is_later.false)
    c.loop-link.invariant c.read_record-previous.ensures.record
    c.link_from-link.ensures

pub loop-link-preserved : goal.loop-link-preserved
loop-link-preserved c =
    goes_on _ _ _ _ _ _ _ _ _ _ _ _ _ _ c.in-Some.is (sym c.is_later.ensures ∙ c.if-not-is_later.false)
    c.loop-link.invariant c.read_record-previous.ensures.record
    (c.restore-row.ensures ∙ ap (λ b. restore b c.loop-link.row) c.read.ensures)
    c.read_record-previous.ensures.ticks c.link_from-link.ensures
