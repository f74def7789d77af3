use Rattle.std.proofs.Common.{◌≡◌, ◌∙◌, None, refl, sym, ap, arith}
use Rattle.oe_rows.specs.declared.keys.Key.TheVariants.{Customer}
use Rattle.oe_undo.specs.Undo.{link_seen}
use Rattle.oe_undo.specs.Walks.{leads_later}
use Rattle.oe_index.specs.Numbers.{name_number}
use Rattle.oe_journal.specs.Forgetting.{tells_name}
use Rattle.oe_undo.proofs.ChainedLinkFacts.{chains_are_walked}
use Rattle.oe_undo.proofs.WalkFacts.{goes_first, stands_there, goes_on, leaves_fewer}
use Rattle.oe_journal.proofs.ForgettingFacts.{asks_first, asks_true, asks_on, asks_end}
use Rattle.oe_journal.proofs.forgetting.had_later.Goals as goal

pub loop-link-init : goal.loop-link-init
loop-link-init c =
    let link : c.link-link.result ≡ link_seen c.args.undo.now (Customer c.args.key.now) = c.link-link.ensures in
    let walks = chains_are_walked c.args.undo.now.log (link_seen c.args.undo.now)
    (Customer c.args.key.now) c.args.moment
    None c.is_chained.ensures.whole c.is_chained.ensures.chained c.requires in (
      (
        None,
        goes_first _ _ _ _ _ _ _ _ (rw link walks) c.new-ticks.ensures (omega (arith, c.records-known.ensures)),
      ),
      asks_first c.args.undo.now.log c.args.moment (name_number c.args.last.now) (link_seen c.args.undo.now)
          (Customer c.args.key.now) c.link-link.result c.is_chained.ensures.whole c.is_chained.ensures.chained link,
    )

pub read_record-previous-requires : goal.read_record-previous-requires
read_record-previous-requires c = stands_there _ _ _ _ _ _ _ _ _ c.in-Some.is
    (sym c.is_later.ensures ∙ c.if-not-is_later.false) c.loop-link.invariant.0.1

pub loop-link-smaller : goal.loop-link-smaller
loop-link-smaller c =
    leaves_fewer _ _ _ _ _ _ _ _ _ _ _ _ c.in-Some.is (sym c.is_later.ensures ∙ c.if-not-is_later.false)
    c.loop-link.invariant.0.1 c.read_record-previous.ensures.record
    c.link_from-link.ensures

pub loop-link-preserved : goal.loop-link-preserved
loop-link-preserved c = (
  (
    _,
    goes_on _ _ _ _ _ _ _ _ _ _ _ _ _ _ c.in-Some.is (sym c.is_later.ensures ∙ c.if-not-is_later.false)
        c.loop-link.invariant.0.1 c.read_record-previous.ensures.record refl
        c.read_record-previous.ensures.ticks c.link_from-link.ensures,
  ),
  asks_on c.args.undo.now.log c.args.moment (name_number c.args.last.now) c.requires _ _ _ _ _ _ c.in-Some.is
      (sym c.is_later.ensures ∙ c.if-not-is_later.false) c.loop-link.invariant.1
      c.read_record-previous.ensures.record
      (ap (tells_name (name_number c.args.last.now)) (sym c.read.ensures) ∙ sym c.if-has_name.ensures)
      c.link_from-link.ensures,
)

pub returns-then-not-is_later : goal.returns-then-not-is_later
returns-then-not-is_later c =
    sym (asks_end c.args.undo.now.log c.args.moment (name_number c.args.last.now) _ _ c.loop-link.invariant.1
    (ap (leads_later c.args.moment) c.in-Some.is ∙ sym c.is_later.ensures ∙ c.if-not-is_later.true))

pub returns-then-has_name : goal.returns-then-has_name
returns-then-has_name c =
    sym (asks_true c.args.undo.now.log c.args.moment (name_number c.args.last.now) c.requires _ _ _ _ _ c.in-Some.is
    (sym c.is_later.ensures ∙ c.if-not-is_later.false) c.loop-link.invariant.1 c.read_record-previous.ensures.record
    (ap (tells_name (name_number c.args.last.now)) (sym c.read.ensures) ∙ sym c.if-has_name.ensures))

pub returns : goal.returns
returns c =
    sym (asks_end c.args.undo.now.log c.args.moment (name_number c.args.last.now) _ _ c.loop-link.invariant.1
    (ap (leads_later c.args.moment) c.in_default.is))
