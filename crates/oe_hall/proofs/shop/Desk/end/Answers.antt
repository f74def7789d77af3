use Rattle.std.proofs.Common.{rules, ◌≡◌, ℕ, Ok, Err, inl, subst}
use Rattle.oe_hall.specs.Histories.{HasHappened}
use Rattle.oe_hall.specs.Turns.{EndCall}
use Rattle.oe_hall.specs.Desks.{TheDesk}
use Rattle.oe_hall.proofs.shop.Desk.end.Goals as goal

pub returns-in-Ok-clause-turn : goal.returns-in-Ok-clause-turn
returns-in-Ok-clause-turn g c =
    let own : c.terminal-terminal.result ≡ c.self.inside.seat.terminal = search rules in
    inl (
      search rules,
      subst (λ (d : TheDesk). EndCall d.calls d.seat.terminal (Ok tt) c.end.new.caller) c.self.view_is
          (subst (λ (t : ℕ). EndCall c.self.inside.caller t (Ok tt) c.end.new.caller) own c.in-Ok.ensures.called),
    )

pub returns-clause-turn : goal.returns-clause-turn
returns-clause-turn g c =
    let own : c.terminal-terminal.result ≡ c.self.inside.seat.terminal = search rules in
    inl (
      search rules,
      subst (λ (d : TheDesk). EndCall d.calls d.seat.terminal (Err c.in-Err.refusal) c.end.new.caller) c.self.view_is
          (subst (λ (t : ℕ). EndCall c.self.inside.caller t (Err c.in-Err.refusal) c.end.new.caller) own
          c.in-Err.ensures.called),
    )

pub returns-then-not-began-clause-run : goal.returns-then-not-began-clause-run
returns-then-not-began-clause-run g c =
    subst (λ (d : TheDesk). HasHappened g.J.Naming.names.opened d.calls.seen) c.self.view_is c.self.invariant.4
