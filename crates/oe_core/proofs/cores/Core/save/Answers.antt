use Rattle.std.proofs.Common.{Some, refl, arith, slice_set}
use Rattle.oe_theory.specs.Next.{Save, Saved}
use Rattle.oe_core.specs.Core.{Moves}
use Rattle.oe_core.proofs.LastFacts.{still_open}
use Rattle.oe_core.proofs.MoveFacts.{carries, nothing_open, HasOpen, lent_tx, lent_here, saved}
use Rattle.oe_core.proofs.cores.Core.save.Goals.{In-Some-at_mut, After-self-2-1}
use Rattle.oe_core.proofs.cores.Core.save.Goals as goal

pub returns-in_default-clause-carries : goal.returns-in_default-clause-carries
returns-in_default-clause-carries c =
    rw (← c.self.view_is)
    (carries (nothing_open
    (record { engine = c.self.inside.engine; txs = c.self.inside.txs; works = c.self.inside.works })
    c.self.invariant (Save c.args.terminal) c.args.terminal refl
    (lent_tx c.self.invariant refl c.at.ensures.high c.at.ensures.value c.in_default.is)))

-- the transaction in its slot
is_there : (c : In-Some-at_mut)
    → HasOpen (record { engine = c.self.inside.engine; txs = c.self.inside.txs; works = c.self.inside.works })
    c.args.terminal c.in-Some.tx c.in-Some-at_mut.work
is_there c =
    lent_here c.self.invariant refl c.at.ensures.high c.at.ensures.value c.in-Some.is refl c.at_mut.ensures.high
    c.at_mut.ensures.value c.in-Some-at_mut.is

-- the mark has moved
marked : (c : After-self-2-1)
    → Moves (record { engine = c.self.inside.engine; txs = c.self.inside.txs; works = c.self.inside.works })
    (Save c.args.terminal) Saved
    (record {
      engine = c.self.inside.engine;
      txs = c.self.inside.txs;
      works = slice_set c.self.inside.works c.args.terminal (Some c.save.new.self);
    })
marked c =
    saved (is_there (goal.at.returns-clause-carries c).In-Some-at_mut) c.save.new.self c.savepoint.result _
    c.save.ensures
    c.savepoint.ensures.open
    refl

pub invariant_of-self : goal.invariant_of-self
invariant_of-self c = (marked c).orderly

pub returns-clause-carries : goal.returns-clause-carries
returns-clause-carries c = rw (← c.self.view_is) (carries (marked c))

-- while a transaction is open its terminal has no last reply
pub returns-clause-replies : goal.returns-clause-replies
returns-clause-replies c =
    let here = is_there (goal.at.returns-clause-replies c).In-Some-at_mut in
    rw (← c.self.view_is)
    (still_open c.self.inside.engine c.self.inside.engine c.self.inside.txs c.self.inside.works c.args.terminal
    c.in-Some.tx
    (Some c.save.new.self) here.tx (omega (arith, here.low, here.orderly.work_slots)))
