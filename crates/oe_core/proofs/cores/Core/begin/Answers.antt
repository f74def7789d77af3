use Rattle.std.proofs.Common.{rules, arith, None, Some, sym, ap, ◌∙◌}
use Rattle.oe_theory.specs.Next.{Begin, Begun}
use Rattle.oe_model.specs.Requests.{rejection}
use Rattle.oe_core.specs.Core.{Moves, last_reply}
use Rattle.oe_core.specs.Works.{work_at_begin}
use Rattle.oe_core.proofs.LastFacts.{both_slots}
use Rattle.oe_core.proofs.SlotFacts.{slice_of}
use Rattle.oe_core.proofs.MoveFacts.{carries, begun_here, no_tx}
use Rattle.oe_core.proofs.BeginFacts.{rejected_here, not_begun}
use Rattle.oe_core.proofs.cores.Core.begin.Goals.{After-begin_work}
use Rattle.oe_core.proofs.cores.Core.begin.Goals as goal

pub returns-in-Some-clause-carries : goal.returns-in-Some-clause-carries
returns-in-Some-clause-carries c =
    rw (← c.self.view_is)
    (carries (rejected_here _ c.self.invariant c.args.terminal c.args.request.now c.in-Some.refusal
    (ap (rejection c.args.request.now) (sym c.tables.ensures) ∙ sym c.in-Some.ensures)))

pub put_tx-requires : goal.put_tx-requires
put_tx-requires c = slice_of c.self.inside.txs c.args.terminal None None (search rules)
    (no_tx c.self.inside.engine c.args.terminal _ _ (c.self.invariant.works c.args.terminal)
    (rw c.touch.ensures at c.in-Ok.ensures.closed))

-- the transaction has begun
begun : (c : After-begin_work)
    → Moves (record { engine = c.self.inside.engine; txs = c.self.inside.txs; works = c.self.inside.works })
    (Begin c.args.terminal c.args.request.now) Begun
    (record { engine = c.begin.new.self; txs = c.put_tx.new.txs; works = c.begin_work.new.works })
begun c =
    begun_here _ c.self.invariant c.args.terminal c.put_tx.ensures.low c.put_tx.ensures.high c.args.request.now
    c.ranges_hold.ensures c.in-Ok.tx c.begin.new.self _ _
    (ap (rejection c.args.request.now) (sym c.tables.ensures) ∙ sym c.in_default.ensures)
    (rw c.touch.ensures at c.in-Ok.ensures.counted) (rw c.touch.ensures at c.in-Ok.ensures.closed)
    (rw c.touch.ensures at c.begin.ensures.idle) (rw c.touch.ensures at c.in-Ok.ensures.begun)
    (rw c.touch.ensures at c.begin.ensures.name) (rw c.touch.ensures at c.in-Ok.ensures.handle)
    c.put_tx.ensures.after c.begin_work.ensures

pub invariant_of-self : goal.invariant_of-self
invariant_of-self c = (begun c).orderly

pub returns-in-Ok-clause-carries : goal.returns-in-Ok-clause-carries
returns-in-Ok-clause-carries c = rw (← c.self.view_is) (carries (begun c))

pub returns-in-Err-clause-carries : goal.returns-in-Err-clause-carries
returns-in-Err-clause-carries c =
    rw (← c.self.view_is, c.in-Err.ensures.err, c.touch.ensures)
    (carries (not_begun _ c.self.invariant c.args.terminal (search rules) (search rules) c.args.request.now
    c.ranges_hold.ensures
    (ap (rejection c.args.request.now) (sym c.tables.ensures) ∙ sym c.in_default.ensures) c.in-Err.refusal
    (rw c.touch.ensures at c.in-Err.ensures.cause)))

-- while a transaction is open its terminal has no last reply
pub returns-in-Ok-clause-replies : goal.returns-in-Ok-clause-replies
returns-in-Ok-clause-replies c =
    let txs = c.self.inside.txs in
    let works = c.self.inside.works in
    let t = c.args.terminal in
    rw (← c.self.view_is)
    ((λ i. last_reply (record {
      engine = c.begin.new.self;
      txs = c.put_tx.ensures.after i;
      works = c.begin_work.ensures i;
    }))
    ∙ both_slots c.self.inside.engine c.begin.new.self txs works t (Some c.in-Ok.tx)
    (Some (work_at_begin c.args.request.now))
    (omega (arith, c.put_tx.ensures.high, c.self.invariant.tx_slots))
    (omega (arith, c.put_tx.ensures.high, c.self.invariant.work_slots)))
