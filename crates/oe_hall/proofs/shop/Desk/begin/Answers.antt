use Rattle.std.proofs.Common.{rules, ◌≡◌, ℕ, Ok, Err, inl, subst}
use Rattle.oe_hall.specs.Histories.{HasHappened}
use Rattle.oe_hall.specs.Turns.{BeginCall}
use Rattle.oe_hall.specs.Desks.{TheDesk}
use Rattle.oe_hall.proofs.shop.Desk.begin.Goals as goal

pub returns-clause-turn : goal.returns-clause-turn
returns-clause-turn g c =
    let q = c.args.request.now in
    let own : c.terminal-terminal.result ≡ c.self.inside.seat.terminal = search rules in
    inl (
    subst (λ (d : TheDesk). BeginCall d.calls d.seat.terminal q (Err c.in-Err.refusal) c.begin.new.caller)
    c.self.view_is
    (subst (λ (t : ℕ). BeginCall c.self.inside.caller t q (Err c.in-Err.refusal) c.begin.new.caller) own
    c.in-Err.ensures.called)
    )

pub returns-then-self-eq-MOST_BEGUN-clause-run : goal.returns-then-self-eq-MOST_BEGUN-clause-run
returns-then-self-eq-MOST_BEGUN-clause-run g c =
    subst (λ (d : TheDesk). HasHappened g.J.Naming.names.opened d.calls.seen) c.self.view_is c.self.invariant.4

pub returns-in-Ok-clause-turn : goal.returns-in-Ok-clause-turn
returns-in-Ok-clause-turn g c =
    let q = c.args.request.now in
    let own : c.terminal-terminal.result ≡ c.self.inside.seat.terminal = search rules in
    inl (
    subst (λ (d : TheDesk). BeginCall d.calls d.seat.terminal q (Ok tt) c.begin.new.caller) c.self.view_is
    (subst (λ (t : ℕ). BeginCall c.self.inside.caller t q (Ok tt) c.begin.new.caller) own
    c.in-Ok.ensures.called)
    )
