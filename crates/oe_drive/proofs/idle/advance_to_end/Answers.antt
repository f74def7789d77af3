use Rattle.std.proofs.Common.{◌≡◌, ◌≤◌, ◌⊎◌, ℕ, ◌++◌, ◌∷◌, [], false, ap, ◌∙◌, sym, refl, subst, inl, inr, rules, arith}
use Rattle.oe_hall.specs.Desks.{TheDesk}
use Rattle.oe_hall.specs.declared.shop.Turn.TheVariants as turn
use Rattle.oe_drive.specs.Errands.{is_busy, rollback}
use Rattle.oe_drive.proofs.ErrandFacts.{adds, goes_further, waits_further, has_given_up, has_committed, has_rolled_back}
use Rattle.oe_drive.proofs.idle.advance_to_end.Goals as goal
use Rattle.oe_drive.proofs.idle.advance_to_end.Goals.{then-left-le1-via-then-left-le1}
use Rattle.oe_drive.proofs.idle.advance_to_end.Goals.{then-left-le1-via-else-left-le1+then-not-busy}

pub loop-preserved-in-More : goal.loop-preserved-in-More
loop-preserved-in-More g c =
    let h = c.loop.invariant in
    let same : c.loop.desk.seat.terminal ≡ c.args.desk.now.seat.terminal = ap (λ s. s.terminal) h.1 in (
      search rules,
      search rules,
      search rules,
      search rules,
      search rules,
      search rules,
      search rules,
      search rules,
      goes_further c.args.desk.now.seat.terminal c.loop.left c.args.desk.now.calls.mine c.loop.desk.calls.mine
          c.advance-turn.new.self.calls.mine h.8
          (adds c.loop.desk c.advance-turn.new.self c.loop.work (turn.More c.in-More.next) _ same h.3
          c.in-More.ensures.turn),
    )

pub returns-then-left-le1-clause-called : goal.returns-then-left-le1-clause-called
returns-then-left-le1-clause-called g c =
    let h = c.loop.invariant in
    let same : c.loop.desk.seat.terminal ≡ c.args.desk.now.seat.terminal = ap (λ s. s.terminal) h.1 in
    let stays : c.advance-turn.new.self.seat.terminal ≡ c.loop.desk.seat.terminal =
    ap (λ (d : TheDesk). d.seat.terminal) c.in-Kept.ensures.told in
    let still : c.advance-turn.new.self.seat.terminal ≡ c.args.desk.now.seat.terminal = stays ∙ same in
    let why : (is_busy c.in-Kept.refusal ≡ false) ⊎ (c.loop.left ≡ 1) = elim c.then-left-le1.branch [
      | then-left-le1-via-then-left-le1 w ↦ inr (omega (arith, w.if-left-le1.true, h.6))
      | then-left-le1-via-else-left-le1+then-not-busy w ↦ inl (sym w.if-not-busy.ensures)
    ] in
    has_given_up c.args.desk.now.seat.terminal c.loop.left c.in-Kept.refusal c.args.desk.now.calls.mine
    c.loop.desk.calls.mine c.advance-turn.new.self.calls.mine c.give_up.new.desk.calls.mine why h.8
    (adds c.loop.desk c.advance-turn.new.self c.loop.work (turn.Kept c.in-Kept.next c.in-Kept.refusal) _ same h.3
    c.in-Kept.ensures.turn)
    (subst (λ (t : ℕ). c.give_up.new.desk.calls.mine ≡ c.advance-turn.new.self.calls.mine ++ rollback t ∷ []) still
    c.give_up.ensures.called)

pub loop-preserved : goal.loop-preserved
loop-preserved g c =
    let h = c.loop.invariant in
    let same : c.loop.desk.seat.terminal ≡ c.args.desk.now.seat.terminal = ap (λ s. s.terminal) h.1 in
    let two : 2 ≤ c.loop.left = omega (arith, c.if-left-le1.false, h.6) in (
      search rules,
      search rules,
      search rules,
      search rules,
      search rules,
      search rules,
      omega (arith, two),
      omega (arith, h.7),
      waits_further c.args.desk.now.seat.terminal c.loop.left _ c.in-Kept.refusal c.args.desk.now.calls.mine
          c.loop.desk.calls.mine c.advance-turn.new.self.calls.mine (sym c.if-not-busy.ensures) two refl h.8
          (adds c.loop.desk c.advance-turn.new.self c.loop.work (turn.Kept c.in-Kept.next c.in-Kept.refusal) _ same h.3
          c.in-Kept.ensures.turn),
    )

pub returns-in-Committed-clause-called : goal.returns-in-Committed-clause-called
returns-in-Committed-clause-called g c =
    let h = c.loop.invariant in
    let same : c.loop.desk.seat.terminal ≡ c.args.desk.now.seat.terminal = ap (λ s. s.terminal) h.1 in
    has_committed c.args.desk.now.seat.terminal c.loop.left c.in-Committed.moment c.advance-turn.new.self.reply
    c.args.desk.now.calls.mine c.loop.desk.calls.mine c.advance-turn.new.self.calls.mine
    c.in-Committed.ensures.reply h.8
    (adds c.loop.desk c.advance-turn.new.self c.loop.work (turn.Committed c.in-Committed.moment) _ same h.3
    c.in-Committed.ensures.turn)

pub returns-in-RolledBack-clause-called : goal.returns-in-RolledBack-clause-called
returns-in-RolledBack-clause-called g c =
    let h = c.loop.invariant in
    let same : c.loop.desk.seat.terminal ≡ c.args.desk.now.seat.terminal = ap (λ s. s.terminal) h.1 in
    has_rolled_back c.args.desk.now.seat.terminal c.loop.left c.in-RolledBack.field-0 c.args.desk.now.calls.mine
    c.loop.desk.calls.mine c.advance-turn.new.self.calls.mine h.8
    (adds c.loop.desk c.advance-turn.new.self c.loop.work (turn.RolledBack c.in-RolledBack.field-0) _ same h.3
    c.in-RolledBack.ensures.turn)
