use Rattle.std.proofs.Common.{arith, subst}
use Rattle.oe_theory.specs.Next.{Next, Advance}
use Rattle.oe_requests.specs.declared.steps.Step.TheVariants as step
use Rattle.oe_requests.specs.declared.refusals.Refusal.{Refusal}
use Rattle.oe_model.specs.System.{system}
use Rattle.oe_machine.specs.Steps.{refusal_in}
use Rattle.oe_load.specs.Turns.{counts_of}
use Rattle.oe_load.proofs.LoadFacts.{tells_busy, full_turned}
use Rattle.oe_load.proofs.turns.refused.Goals as goal

pub returns-in-Busy : goal.returns-in-Busy
returns-in-Busy g c = λ before n asked.
    tells_busy c.args.plan.now before (counts_of c.args.served.now) (g.M.Machine.world c.args.core.now)
    c.args.out.now.items
    c.next_line.new.out.items c.args.terminal _ _ (
      omega (arith, c.get-number.ensures.low, c.get-number.ensures.value),
      omega (arith, c.get-number.ensures.high, c.get-number.ensures.value),
    )
    (subst (λ (e : Refusal). Next system before (Advance c.args.terminal) (refusal_in (step.Advance c.args.terminal) e)
    (g.M.Machine.world c.args.core.now)) c.in-Busy.is n)
    c.next_line.ensures.items c.next_line.ensures.len

pub returns-in-UndoFull : goal.returns-in-UndoFull
returns-in-UndoFull g c = λ before n asked.
    full_turned c.args.plan.now before (g.M.Machine.world c.args.core.now) (counts_of c.args.served.now) c.args.terminal
    c.args.out.now.items c.make_way.result (g.M.Machine.world c.make_way.new.core) c.make_way.new.out.items
    (subst (λ (e : Refusal). Next system before (Advance c.args.terminal) (refusal_in (step.Advance c.args.terminal) e)
    (g.M.Machine.world c.args.core.now)) c.in-UndoFull.is n)
    c.make_way.ensures

pub returns-in-InvalidItem : goal.returns-in-InvalidItem
returns-in-InvalidItem g c = λ before n asked.
    c.rolled_back.ensures before
    (subst (λ (e : Refusal). Next system before (Advance c.args.terminal) (refusal_in (step.Advance c.args.terminal) e)
    (g.M.Machine.world c.args.core.now)) c.in-InvalidItem.is n) asked
