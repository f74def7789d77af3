use Rattle.std.proofs.Common.{◌<◌, length, arith, refl, sym, subst}
use Rattle.oe_locks.specs.Held.{HoldsNothing, OthersKeep}
use Rattle.oe_locks.proofs.HeldFacts.{nothing-set, keeps-set, busy-without, noted-empty}
use Rattle.oe_locks.proofs.Locks.release_all.Goals as goal

pub invariant_of-self : goal.invariant_of-self
invariant_of-self c =
    let room : c.args.terminal < length c.self.inside.held =
    omega (arith, c.at_mut.ensures.size, c.at_mut.ensures.high) in (
      busy-without c.self.inside.held c.args.terminal c.clear.new.self room c.self.inside.busy
          c.without-self-inside.result c.self.invariant.0 c.clear.ensures c.without-self-inside.ensures,
      noted-empty c.self.inside.held c.args.terminal c.clear.new.self room c.self.inside.holders c.self.inside.holders
          c.self.invariant.1 c.clear.ensures (λ k u ne. refl),
    )

pub forget-requires : goal.forget-requires
forget-requires c =
    let room : c.args.terminal < length c.self.inside.held =
    omega (arith, c.at_mut.ensures.size, c.at_mut.ensures.high) in
    nothing-set c.self.inside.held c.args.terminal c.clear.new.self room c.clear.ensures

pub returns-clause-own : goal.returns-clause-own
returns-clause-own c =
    let room : c.args.terminal < length c.self.inside.held =
    omega (arith, c.at_mut.ensures.size, c.at_mut.ensures.high) in
    subst (λ ls. HoldsNothing ls c.args.terminal) (sym c.forget.ensures)
    (nothing-set c.self.inside.held c.args.terminal c.clear.new.self room c.clear.ensures)

pub returns-clause-others : goal.returns-clause-others
returns-clause-others c =
    let room : c.args.terminal < length c.self.inside.held =
    omega (arith, c.at_mut.ensures.size, c.at_mut.ensures.high) in
    rw (← c.self.view_is)
    (subst (λ ls. OthersKeep c.self.inside.held ls c.args.terminal) (sym c.forget.ensures)
    (keeps-set c.self.inside.held c.args.terminal c.clear.new.self room))
