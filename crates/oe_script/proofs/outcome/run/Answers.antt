use Rattle.std.proofs.Common.{suc}
use Rattle.oe_admission.proofs.LiveFacts.{falls, next_live}
use Rattle.oe_script.proofs.LineFacts.{answer_of, not_more}
use Rattle.oe_script.proofs.outcome.run.Goals as goal

pub loop-ended-smaller : goal.loop-ended-smaller
loop-ended-smaller g c = falls (g.M.Machine.world c.loop-ended.core) (g.M.Machine.world c.advance.new.self)
    c.args.terminal
    c.loop-ended.invariant.live c.in-More.ensures.advances.0

pub loop-ended-preserved : goal.loop-ended-preserved
loop-ended-preserved g c =
    record {
      live = next_live (g.M.Machine.world c.loop-ended.core) _ _ (g.M.Machine.world c.advance.new.self)
          c.loop-ended.invariant.live
          c.in-More.ensures.advances.0;
      runs = λ n x w r. c.loop-ended.invariant.runs (suc n) x w
          (g.M.Machine.world c.advance.new.self, c.in-More.ensures.advances.0, r);
    }

pub returns-in_default : goal.returns-in_default
returns-in_default g c =
    let w' = g.M.Machine.world c.advance.new.self in
    let last = g.M.Machine.last c.advance.new.self c.args.terminal in
    let a =
    answer_of (g.M.Machine.world c.loop-ended.core) w' c.args.terminal c.advance.result last c.advance.ensures.advances
    in
    let r = c.loop-ended.invariant.runs 0 a.0 w' (not_more last c.advance.result a.0 a.1 c.in_default.not-More, a.2) in
    (r.0, a.0, a.1, r.1)
