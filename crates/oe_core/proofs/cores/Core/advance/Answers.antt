use Rattle.std.proofs.Common.{Some, None, refl, arith, sym, ap, subst, ◌∙◌, ◌≡◌, slice_set}
use Rattle.std.specs.Prelude.{IsSome, IfSome}
use Rattle.oe_theory.specs.Next.{Advance, More, Committed}
use Rattle.oe_engine.specs.View.{view_of}
use Rattle.oe_engine.specs.View as engine
use Rattle.oe_engine.specs.Calls.{after_commit}
use Rattle.oe_engine.specs.Programs.{reply_at}
use Rattle.oe_requests.specs.declared.steps.Step.TheVariants as step
use Rattle.oe_core.specs.Core.{Moves, last_reply, reply_left, in_slot}
use Rattle.oe_theory.proofs.Sets.{set_idle}
use Rattle.oe_core.proofs.LastFacts.{still_open, both_slots}
use Rattle.oe_core.specs.Works.{WorkState}
use Rattle.oe_requests.specs.declared.requests.Request.{Request}
use Rattle.oe_machine.specs.Steps.{refusal_in}
use Rattle.oe_core.proofs.SlotFacts.{set_twice}
use Rattle.oe_core.proofs.MoveFacts.{carries, nothing_open, HasOpen, lent_tx, lent_here}
use Rattle.oe_core.proofs.AdvanceFacts.{holds_taken, recalls_here, went_on_here, taken_is, taken_is_open, has_reply}
use Rattle.oe_core.proofs.AdvanceFacts.{committed_here}
use Rattle.oe_core.proofs.AdvanceFacts.{left_here, told_last, kept_here, given_up_here, kept_world, is_abort}
use Rattle.oe_core.proofs.cores.Core.advance.Goals.{In-Some-at_mut, In-Ready, After-self-in-More-1}
use Rattle.oe_core.proofs.cores.Core.advance.Goals.{After-self-in-Ready-1, Then-keeps_open, After-end_work}
use Rattle.oe_core.proofs.cores.Core.advance.Goals as goal

pub returns-in_default-clause-advances : goal.returns-in_default-clause-advances
returns-in_default-clause-advances c =
    rw (← c.self.view_is) (
      carries (nothing_open
          (record { engine = c.self.inside.engine; txs = c.self.inside.txs; works = c.self.inside.works })
          c.self.invariant (Advance c.args.terminal) c.args.terminal refl
          (lent_tx c.self.invariant refl c.at.ensures.high c.at.ensures.value c.in_default.is)),
      refl,
    )

-- the transaction in its slot
is_there : (c : In-Some-at_mut)
    → HasOpen (record { engine = c.self.inside.engine; txs = c.self.inside.txs; works = c.self.inside.works })
    c.args.terminal c.in-Some.tx c.in-Some-at_mut.work
is_there c =
    lent_here c.self.invariant refl c.at.ensures.high c.at.ensures.value c.in-Some.is refl c.at_mut.ensures.high
    c.at_mut.ensures.value c.in-Some-at_mut.is

pub next-requires : goal.next-requires
next-requires c = record {
  held = λ o. holds_taken (is_there (goal.at.next-requires c).In-Some-at_mut);
  recalls = λ o. recalls_here (is_there (goal.at.next-requires c).In-Some-at_mut);
}

-- the row went on
went_on : (c : After-self-in-More-1)
    → Moves (record { engine = c.self.inside.engine; txs = c.self.inside.txs; works = c.self.inside.works })
    (Advance c.args.terminal) More
    (record {
      engine = c.next.new.engine;
      txs = c.self.inside.txs;
      works = slice_set c.self.inside.works c.args.terminal
          (Some c.next.new.self);
    })
went_on c =
    went_on_here (is_there (goal.at.returns-in-More-clause-advances c).In-Some-at_mut) c.next.new.self
    c.next.new.engine _
    c.in-More.ensures.progresses c.in-More.ensures.left
    refl

pub invariant_of-self : goal.invariant_of-self
invariant_of-self c = (went_on c).orderly

pub returns-in-More-clause-advances : goal.returns-in-More-clause-advances
returns-in-More-clause-advances c = rw (← c.self.view_is) (carries (went_on c))

-- it was ready: its program has its reply, and its transaction commits
has_its_reply : (c : In-Ready)
    → HasOpen (record { engine = c.self.inside.engine; txs = c.self.inside.txs; works = c.self.inside.works })
    c.args.terminal c.in-Some.tx c.in-Some-at_mut.work
    → reply_at c.next.new.self.position ≡ Some c.in-Ready.ensures.progresses.0.0
has_its_reply c here =
    let ready = c.in-Ready.ensures.progresses in
    has_reply here c.next.new.self ready.2 ready.0.0 ready.0.1

pub commit-requires-clause-open : goal.commit-requires-clause-open
commit-requires-clause-open c =
    let ready = c.in-Ready.ensures.progresses in
    taken_is_open (is_there (goal.at.commit-requires-clause-open c).In-Some-at_mut) c.open_tx-open.result
    c.open_tx-open.ensures.value c.next.new.engine
    (ap view_of ready.1) (ap (λ (z : engine.EngineState). z.name) ready.1)

pub commit-requires-clause-ready : goal.commit-requires-clause-ready
commit-requires-clause-ready c =
    let at = goal.at.commit-requires-clause-ready c in
    subst IsSome (sym (has_its_reply at.In-Ready (is_there at.In-Some-at_mut))) refl

committed_now : (c : After-self-in-Ready-1)
    → Moves (record { engine = c.self.inside.engine; txs = c.self.inside.txs; works = c.self.inside.works })
    (Advance c.args.terminal) (Committed c.commit.result c.in-Ready.ensures.progresses.0.0)
    (record {
      engine = c.commit.new.engine;
      txs = c.open_tx-open.new.txs;
      works = slice_set c.self.inside.works c.args.terminal (Some c.next.new.self);
    })
committed_now c =
    let here = is_there (goal.at.returns-in-Ready-clause-advances c).In-Some-at_mut in
    let ready = c.in-Ready.ensures.progresses in
    let reply : reply_at c.next.new.self.position ≡ Some ready.0.0 =
    has_its_reply (goal.at.returns-in-Ready-clause-advances c).In-Ready here in
    committed_here here c.open_tx-open.result (taken_is here c.open_tx-open.result c.open_tx-open.ensures.value)
    ready.0.0 c.commit.result c.next.new.engine c.commit.new.engine _ _ (Some c.next.new.self)
    ready.0.1 ready.1 c.commit.ensures.moment
    (subst (λ o. IfSome o
    (λ y. view_of c.commit.new.engine ≡ after_commit c.open_tx-open.result.terminal c.in-Some-at_mut.work.request y
    (view_of c.next.new.engine))) reply
    (subst (λ (q : Request). IfSome (reply_at c.next.new.self.position)
    (λ y. view_of c.commit.new.engine ≡ after_commit c.open_tx-open.result.terminal q y (view_of c.next.new.engine)))
    (ap (λ (w : WorkState). w.request) c.in-Ready.ensures.left) c.commit.ensures.committed))
    c.commit.ensures.name c.open_tx-open.ensures.after
    refl

pub invariant_of-self-in-Ready : goal.invariant_of-self-in-Ready
invariant_of-self-in-Ready c = (committed_now c).orderly

pub returns-in-Ready-clause-advances : goal.returns-in-Ready-clause-advances
returns-in-Ready-clause-advances c =
    let here = is_there (goal.at.returns-in-Ready-clause-advances c).In-Some-at_mut in
    rw (← c.self.view_is)
    (told_last (committed_now c)
    (left_here here c.next.new.self c.in-Ready.ensures.progresses.0.0 c.commit.new.engine _ _
    c.open_tx-open.ensures.after
    refl
    (has_its_reply (goal.at.returns-in-Ready-clause-advances c).In-Ready here)))

-- it was refused, and the transaction stays open where it stands
kept : (c : Then-keeps_open)
    → Moves (record { engine = c.self.inside.engine; txs = c.self.inside.txs; works = c.self.inside.works })
    (Advance c.args.terminal) (refusal_in (step.Advance c.args.terminal) c.in-Refused.refusal)
    (record {
      engine = c.next.new.engine;
      txs = c.self.inside.txs;
      works = slice_set c.self.inside.works c.args.terminal
          (Some c.next.new.self);
    })
kept c =
    let refused = c.in-Refused.ensures.progresses in
    kept_here (is_there (goal.at.returns-then-keeps_open-clause-advances c).In-Some-at_mut) c.next.new.self
    c.next.new.engine _
    c.in-Refused.refusal
    (sym c.keeps_open.ensures ∙ c.if-keeps_open.true) refused.0 refused.1 refused.2 c.in-Refused.ensures.left
    refl

pub invariant_of-self-then-keeps_open : goal.invariant_of-self-then-keeps_open
invariant_of-self-then-keeps_open c = (kept c).orderly

pub returns-then-keeps_open-clause-advances : goal.returns-then-keeps_open-clause-advances
returns-then-keeps_open-clause-advances c =
    rw (← c.self.view_is) (
      carries (kept c),
      kept_world _ _ c.args.terminal c.in-Refused.refusal (sym c.keeps_open.ensures ∙ c.if-keeps_open.true)
          (kept c).next,
    )

-- it was refused: the transaction is taken out of its slot, and rolled back
pub roll_back-requires : goal.roll_back-requires
roll_back-requires c =
    taken_is_open (is_there (goal.at.roll_back-requires c).In-Some-at_mut) c.open_tx-open-in-Refused.result
    c.open_tx-open-in-Refused.ensures.value c.next.new.engine
    c.in-Refused.ensures.progresses.1 c.in-Refused.ensures.progresses.2

given_up : (c : After-end_work)
    → Moves (record { engine = c.self.inside.engine; txs = c.self.inside.txs; works = c.self.inside.works })
    (Advance c.args.terminal) (refusal_in (step.Advance c.args.terminal) c.in-Refused.refusal)
    (record {
      engine = c.roll_back.new.engine;
      txs = c.open_tx-open-in-Refused.new.txs;
      works = c.end_work.new.works;
    })
given_up c =
    let here = is_there (goal.at.returns-else-keeps_open-clause-advances c).In-Some-at_mut in
    let refused = c.in-Refused.ensures.progresses in
    let out = c.open_tx-open-in-Refused in
    given_up_here here out.result (taken_is here out.result out.ensures.value) c.next.new.engine c.roll_back.new.engine
    _ _ None c.in-Refused.refusal
    (sym c.keeps_open.ensures ∙ c.if-keeps_open.false) refused.0 refused.1 refused.2 c.roll_back.ensures.rolled_back
    c.roll_back.ensures.name out.ensures.after
    (c.end_work.ensures ∙ set_twice c.self.inside.works c.args.terminal (Some c.next.new.self) None)

pub invariant_of-self-in-Refused : goal.invariant_of-self-in-Refused
invariant_of-self-in-Refused c = (given_up c).orderly

pub returns-else-keeps_open-clause-advances : goal.returns-else-keeps_open-clause-advances
returns-else-keeps_open-clause-advances c =
    let here = is_there (goal.at.returns-else-keeps_open-clause-advances c).In-Some-at_mut in
    rw (← c.self.view_is) (
      carries (given_up c),
      is_abort _ _ _ _ here c.in-Refused.refusal (sym c.keeps_open.ensures ∙ c.if-keeps_open.false)
          c.in-Refused.ensures.progresses.0,
    )

-- while a transaction is open its terminal has no last reply
pub returns-in-More-clause-replies : goal.returns-in-More-clause-replies
returns-in-More-clause-replies c =
    let here = is_there (goal.at.returns-in-More-clause-replies c).In-Some-at_mut in
    rw (← c.self.view_is)
    (still_open c.self.inside.engine c.next.new.engine c.self.inside.txs c.self.inside.works c.args.terminal
    c.in-Some.tx
    (Some c.next.new.self) here.tx (omega (arith, here.low, here.orderly.work_slots)))

pub returns-else-keeps_open-clause-replies : goal.returns-else-keeps_open-clause-replies
returns-else-keeps_open-clause-replies c =
    let here = is_there (goal.at.returns-else-keeps_open-clause-replies c).In-Some-at_mut in
    let txs = c.self.inside.txs in
    let works = c.self.inside.works in
    let t = c.args.terminal in
    rw (← c.self.view_is)
    ((λ i. last_reply (record {
      engine = c.roll_back.new.engine;
      txs = c.open_tx-open-in-Refused.ensures.after i;
      works = (c.end_work.ensures ∙ set_twice works t (Some c.next.new.self) None) i;
    }))
    ∙ (both_slots c.self.inside.engine c.roll_back.new.engine txs works t None None
    (omega (arith, here.low, here.orderly.tx_slots)) (omega (arith, here.low, here.orderly.work_slots))
    ∙ set_idle t None (last_reply (record { engine = c.self.inside.engine; txs = txs; works = works }))
    (ap (λ o. reply_left o (in_slot works t)) here.tx)))
