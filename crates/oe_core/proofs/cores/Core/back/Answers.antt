use Rattle.std.proofs.Common.{Some, refl, arith, ap, ◌∙◌, ℕ, slice_set}
use Rattle.oe_theory.specs.Next.{Back, Gone_back}
use Rattle.oe_engine.specs.View.{view_of}
use Rattle.oe_engine.specs.Calls.{back_at}
use Rattle.oe_core.specs.Core.{Moves}
use Rattle.oe_core.proofs.LastFacts.{still_open}
use Rattle.oe_core.proofs.MoveFacts.{carries, nothing_open, HasOpen, lent_tx, lent_here, own_work, mark_within}
use Rattle.oe_core.proofs.MoveFacts.{gone_back_here}
use Rattle.oe_core.proofs.cores.Core.back.Goals.{In-Some-at_mut, After-self-2-1}
use Rattle.oe_core.proofs.cores.Core.back.Goals as goal

pub returns-in_default-clause-carries : goal.returns-in_default-clause-carries
returns-in_default-clause-carries c =
    rw (← c.self.view_is)
    (carries (nothing_open
    (record { engine = c.self.inside.engine; txs = c.self.inside.txs; works = c.self.inside.works })
    c.self.invariant (Back c.args.terminal) c.args.terminal refl
    (lent_tx c.self.invariant refl c.at.ensures.high c.at.ensures.value c.in_default.is)))

-- the transaction in its slot
is_there : (c : In-Some-at_mut)
    → HasOpen (record { engine = c.self.inside.engine; txs = c.self.inside.txs; works = c.self.inside.works })
    c.args.terminal c.in-Some.tx c.in-Some-at_mut.work
is_there c =
    lent_here c.self.invariant refl c.at.ensures.high c.at.ensures.value c.in-Some.is refl c.at_mut.ensures.high
    c.at_mut.ensures.value c.in-Some-at_mut.is

pub rollback_to-requires-clause-open : goal.rollback_to-requires-clause-open
rollback_to-requires-clause-open c =
    (own_work (is_there (goal.at.rollback_to-requires-clause-open c).In-Some-at_mut)).is_open

pub rollback_to-requires-clause-savepoint : goal.rollback_to-requires-clause-savepoint
rollback_to-requires-clause-savepoint c = rw (c.mark_records.ensures)
    (mark_within (is_there (goal.at.rollback_to-requires-clause-savepoint c).In-Some-at_mut))

-- the transaction is back at its mark
gone_back : (c : After-self-2-1)
    → Moves (record { engine = c.self.inside.engine; txs = c.self.inside.txs; works = c.self.inside.works })
    (Back c.args.terminal) Gone_back
    (record {
      engine = c.rollback_to.new.self;
      txs = c.self.inside.txs;
      works = slice_set c.self.inside.works c.args.terminal (Some c.back.new.self);
    })
gone_back c =
    gone_back_here (is_there (goal.at.returns-clause-carries c).In-Some-at_mut) c.back.new.self c.rollback_to.new.self _
    c.back.ensures
    (c.rollback_to.ensures.back ∙ ap (λ (k : ℕ). back_at c.in-Some.tx.terminal k (view_of c.self.inside.engine))
    c.mark_records.ensures) c.rollback_to.ensures.name
    refl

pub invariant_of-self : goal.invariant_of-self
invariant_of-self c = (gone_back c).orderly

pub returns-clause-carries : goal.returns-clause-carries
returns-clause-carries c = rw (← c.self.view_is) (carries (gone_back c))

-- while a transaction is open its terminal has no last reply
pub returns-clause-replies : goal.returns-clause-replies
returns-clause-replies c =
    let here = is_there (goal.at.returns-clause-replies c).In-Some-at_mut in
    rw (← c.self.view_is)
    (still_open c.self.inside.engine c.rollback_to.new.self c.self.inside.txs c.self.inside.works c.args.terminal
    c.in-Some.tx
    (Some c.back.new.self) here.tx (omega (arith, here.low, here.orderly.work_slots)))
