use Rattle.std.proofs.Common.{rules, ◌≡◌, ℕ, inl, subst}
use Rattle.oe_machine.specs.declared.advances.Advanced.TheVariants as advanced
use Rattle.oe_hall.specs.Histories.{HasHappened}
use Rattle.oe_hall.specs.Turns.{AdvanceCall}
use Rattle.oe_hall.specs.Desks.{TheDesk}
use Rattle.oe_hall.proofs.shop.Desk.advance.Goals as goal

pub returns-in-More-clause-turn : goal.returns-in-More-clause-turn
returns-in-More-clause-turn g c =
    let y = c.advance.new.reply in
    let own : c.terminal-terminal.result ≡ c.self.inside.seat.terminal = search rules in
    inl (
      search rules,
      subst (λ (d : TheDesk). AdvanceCall d.calls d.seat.terminal advanced.More y c.advance.new.caller)
          c.self.view_is
          (subst (λ (t : ℕ). AdvanceCall c.self.inside.caller t advanced.More y c.advance.new.caller) own
          c.in-More.ensures.called),
    )

pub returns-in-Kept-clause-turn : goal.returns-in-Kept-clause-turn
returns-in-Kept-clause-turn g c =
    let y = c.advance.new.reply in
    let own : c.terminal-terminal.result ≡ c.self.inside.seat.terminal = search rules in
    inl (
      search rules,
      subst (λ (d : TheDesk). AdvanceCall d.calls d.seat.terminal (advanced.Kept c.in-Kept.refusal) y
          c.advance.new.caller)
          c.self.view_is
          (subst (λ (t : ℕ). AdvanceCall c.self.inside.caller t (advanced.Kept c.in-Kept.refusal) y
          c.advance.new.caller) own
          c.in-Kept.ensures.called),
    )

pub returns-in-Committed-clause-turn : goal.returns-in-Committed-clause-turn
returns-in-Committed-clause-turn g c =
    let y = c.advance.new.reply in
    let own : c.terminal-terminal.result ≡ c.self.inside.seat.terminal = search rules in
    inl (
      search rules,
      subst (λ (d : TheDesk). AdvanceCall d.calls d.seat.terminal (advanced.Committed c.in-Committed.moment) y
          c.advance.new.caller)
          c.self.view_is
          (subst (λ (t : ℕ). AdvanceCall c.self.inside.caller t (advanced.Committed c.in-Committed.moment) y
          c.advance.new.caller) own
          c.in-Committed.ensures.called),
    )

pub returns-clause-turn : goal.returns-clause-turn
returns-clause-turn g c =
    let y = c.advance.new.reply in
    let own : c.terminal-terminal.result ≡ c.self.inside.seat.terminal = search rules in
    inl (
      search rules,
      subst (λ (d : TheDesk). AdvanceCall d.calls d.seat.terminal (advanced.RolledBack c.in-RolledBack.refusal) y
          c.advance.new.caller)
          c.self.view_is
          (subst (λ (t : ℕ). AdvanceCall c.self.inside.caller t (advanced.RolledBack c.in-RolledBack.refusal) y
          c.advance.new.caller) own
          c.in-RolledBack.ensures.called),
    )

pub returns-then-not-began-clause-run : goal.returns-then-not-began-clause-run
returns-then-not-began-clause-run g c =
    subst (λ (d : TheDesk). HasHappened g.J.Naming.names.opened d.calls.seen) c.self.view_is c.self.invariant.4
