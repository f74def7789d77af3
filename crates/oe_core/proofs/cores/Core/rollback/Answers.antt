use Rattle.std.proofs.Common.{refl}
use Rattle.oe_theory.specs.Next.{Rollback, Rolled_back}
use Rattle.oe_core.specs.Core.{Moves}
use Rattle.oe_core.proofs.MoveFacts.{carries, nothing_taken, taken_here, own_work, rolled_back_here}
use Rattle.oe_core.proofs.cores.Core.rollback.Goals.{After-end_work}
use Rattle.oe_core.proofs.cores.Core.rollback.Goals as goal

pub invariant_of-self : goal.invariant_of-self
invariant_of-self c =
    (nothing_taken _ c.self.invariant (Rollback c.args.terminal) c.args.terminal refl c.in_default.ensures.value _
    c.take_tx.ensures.after).orderly

pub returns-in_default-clause-carries : goal.returns-in_default-clause-carries
returns-in_default-clause-carries c =
    rw (← c.self.view_is)
    (carries (nothing_taken _ c.self.invariant (Rollback c.args.terminal) c.args.terminal refl
    c.in_default.ensures.value _ c.take_tx.ensures.after))

pub roll_back-requires : goal.roll_back-requires
roll_back-requires c = (own_work (taken_here c.self.invariant c.take_tx.ensures.high c.in-Some.ensures.value).1).is_open

-- the transaction is gone
rolled_back : (c : After-end_work)
    → Moves (record { engine = c.self.inside.engine; txs = c.self.inside.txs; works = c.self.inside.works })
    (Rollback c.args.terminal) Rolled_back
    (record {
      engine = c.roll_back.new.engine;
      txs = c.take_tx.new.txs;
      works = c.end_work.new.works;
    })
rolled_back c =
    rolled_back_here (taken_here c.self.invariant c.take_tx.ensures.high c.in-Some.ensures.value).1
    c.roll_back.new.engine _ _ c.roll_back.ensures.rolled_back c.roll_back.ensures.name c.take_tx.ensures.after
    c.end_work.ensures

pub invariant_of-self-2 : goal.invariant_of-self-2
invariant_of-self-2 c = (rolled_back c).orderly

pub returns-clause-carries : goal.returns-clause-carries
returns-clause-carries c = rw (← c.self.view_is) (carries (rolled_back c))
