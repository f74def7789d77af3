use Rattle.std.proofs.Common.{rules, ℕ, inl, sym, ◌∙◌, subst}
use Rattle.atomic_table.specs.Seated.{TableId}
use Rattle.oe_hall.specs.Histories.{HasHappened}
use Rattle.oe_hall.specs.Turns.{ReadCall}
use Rattle.oe_hall.specs.Desks.{TheDesk, IsBalanced}
use Rattle.oe_hall.proofs.HistoryFacts.{read_leaves}
use Rattle.oe_hall.proofs.shop.Desk.read.Goals as goal

pub returns-clause-turn : goal.returns-clause-turn
returns-clause-turn g c =
    let world = g.M.Machine.world in
    let p = c.args.pin.now in
    let q = c.args.query.now in
    let r = c.read.result in
    inl (
      search rules,
      subst (λ (d : TheDesk). ReadCall world d.seat.words d.calls d.seat.terminal p q r c.read.new.caller)
          c.self.view_is
          (subst (λ (z : TableId). ReadCall world z c.self.inside.caller c.self.inside.seat.terminal p q r
          c.read.new.caller)
          (sym c.self.invariant.0)
          (subst (λ (t : ℕ). ReadCall world g.J.Naming.names.words c.self.inside.caller t p q r c.read.new.caller)
          c.self.invariant.3 c.read.ensures.called)),
    )

pub returns-then-not-holds-clause-run : goal.returns-then-not-holds-clause-run
returns-then-not-holds-clause-run g c =
    subst (λ (d : TheDesk). HasHappened g.J.Naming.names.opened d.calls.seen) c.self.view_is c.self.invariant.4

pub invariant_of-self : goal.invariant_of-self
invariant_of-self g c =
    let i = c.self.invariant in
    let here = c.read.ensures.here in
    let left =
    read_leaves g.M.Machine.world g.J.Naming.names.words c.self.inside.caller c.read.new.caller c.self.inside.caller.by
    c.args.pin.now c.args.query.now c.read.result c.read.ensures.called in (
      i.0,
      i.1,
      here.0 ∙ i.2,
      here.1 ∙ i.3,
      c.read.ensures.run,
      subst (IsBalanced c.self.inside.told) (sym left) i.5,
    )
