use Rattle.std.proofs.Common.{◌<◌, length, arith, refl, subst}
use Rattle.oe_locks.specs.Held.{IsBelow}
use Rattle.oe_locks.proofs.HeldFacts.{below-some, busy-below, busy-kept, gives-back, keeps-set}
use Rattle.oe_locks.proofs.HeldFacts.{held-at, noted-given}
use Rattle.oe_locks.proofs.Locks.give_back.Goals as goal

pub give_back-requires : goal.give_back-requires
give_back-requires c =
    let room : c.args.terminal < length c.self.inside.held =
    omega (arith, c.at_mut.ensures.size, c.at_mut.ensures.high) in
    below-some _ c.args.mode
    (subst (IsBelow c.args.mode)
    (held-at c.self.inside.held c.args.terminal c.at_mut.result.now room c.at_mut.ensures.value c.args.name)
    (rw c.self.view_is c.requires))

pub invariant_of-self : goal.invariant_of-self
invariant_of-self c =
    let room : c.args.terminal < length c.self.inside.held =
    omega (arith, c.at_mut.ensures.size, c.at_mut.ensures.high) in
    let was = held-at c.self.inside.held c.args.terminal c.at_mut.result.now room c.at_mut.ensures.value in (
      busy-kept c.self.inside.held c.args.terminal c.give_back.new.self room c.self.inside.busy c.self.invariant.0
          (busy-below c.self.inside.held c.self.inside.busy c.args.terminal c.args.name c.args.mode c.self.invariant.0
          (rw c.self.view_is c.requires)),
      noted-given c.self.inside.held c.args.terminal c.give_back.new.self room c.self.inside.holders
          c.self.inside.holders c.self.invariant.1 c.at_mut.result.now was c.args.name c.args.mode
          c.give_back.ensures.own
          (below-some _ c.args.mode (subst (IsBelow c.args.mode) (was c.args.name) (rw c.self.view_is c.requires)))
          (λ k u. refl),
    )

pub returns-clause-own : goal.returns-clause-own
returns-clause-own c =
    let room : c.args.terminal < length c.self.inside.held =
    omega (arith, c.at_mut.ensures.size, c.at_mut.ensures.high) in
    rw (← c.self.view_is)
    (gives-back c.self.inside.held c.args.terminal c.give_back.new.self room c.at_mut.result.now
    (held-at c.self.inside.held c.args.terminal c.at_mut.result.now room c.at_mut.ensures.value) c.args.name
    c.args.mode c.give_back.ensures.own)

pub returns-clause-others : goal.returns-clause-others
returns-clause-others c =
    let room : c.args.terminal < length c.self.inside.held =
    omega (arith, c.at_mut.ensures.size, c.at_mut.ensures.high) in
    rw (← c.self.view_is) (keeps-set c.self.inside.held c.args.terminal c.give_back.new.self room)
