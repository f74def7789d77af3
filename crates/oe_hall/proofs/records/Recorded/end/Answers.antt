use Rattle.std.proofs.Common.{◌≡◌, ◌∙◌, ap, refl}
use Rattle.oe_requests.specs.declared.steps.Step.TheVariants as step
use Rattle.oe_history.specs.declared.views.Entry.{Entry}
use Rattle.oe_history.specs.Views.{entry}
use Rattle.oe_history.specs.Calls.{TheHistory}
use Rattle.oe_hall.specs.Histories.{IsHistory}
use Rattle.oe_hall.specs.Turns.{end_answer}
use Rattle.oe_hall.proofs.HistoryFacts.{went, happened, seen_all, own_rollback, turned, end_leaves}
use Rattle.oe_hall.proofs.records.Recorded.end.Goals as goal

pub invariant_of-self : goal.invariant_of-self
invariant_of-self g c =
    let i = c.self.invariant in
    let by = c.args.caller.now.by in
    let t = c.args.terminal in
    let w = g.J.Naming.names.opened in
    let v = g.M.Machine.world c.self.inside.core in
    let v' = g.M.Machine.world c.end-ended.new.core in
    let h = c.self.inside.history in
    let h' = c.write.new.self in
    let e : Entry = entry by (step.Rollback by) (end_answer c.end-ended.result) in
    let d : Entry = entry t (step.Rollback t) (end_answer c.end-ended.result) in
    let same : e ≡ d = λ j. entry (c.requires.own j) (step.Rollback (c.requires.own j)) (end_answer
    c.end-ended.result) in
    let is : IsHistory w h'.log v' = went w v v' h h' e d same i.2 c.write.ensures.log (c.end-ended.ensures.step.0)
    (own_rollback t (end_answer c.end-ended.result)) in
    (ap (λ (x : TheHistory). x.table) c.write.ensures.log ∙ i.0, i.1, is)

pub returns-clause-run : goal.returns-clause-run
returns-clause-run g c =
    let i = c.self.invariant in
    let by = c.args.caller.now.by in
    let t = c.args.terminal in
    let w = g.J.Naming.names.opened in
    let v = g.M.Machine.world c.self.inside.core in
    let v' = g.M.Machine.world c.end-ended.new.core in
    let h = c.self.inside.history in
    let h' = c.write.new.self in
    let e : Entry = entry by (step.Rollback by) (end_answer c.end-ended.result) in
    let d : Entry = entry t (step.Rollback t) (end_answer c.end-ended.result) in
    let same : e ≡ d = λ j. entry (c.requires.own j) (step.Rollback (c.requires.own j)) (end_answer
    c.end-ended.result) in
    let is : IsHistory w h'.log v' = went w v v' h h' e d same i.2 c.write.ensures.log (c.end-ended.ensures.step.0)
    (own_rollback t (end_answer c.end-ended.result)) in
    happened w v' h'.log c.write.new.caller.seen
    (seen_all h h' c.args.caller.now c.write.new.caller e c.write.ensures.log c.write.ensures.mine) is

pub returns-clause-open : goal.returns-clause-open
returns-clause-open g c =
    let i = c.self.invariant in
    let by = c.args.caller.now.by in
    let t = c.args.terminal in
    let w = g.J.Naming.names.opened in
    let v = g.M.Machine.world c.self.inside.core in
    let v' = g.M.Machine.world c.end-ended.new.core in
    let h = c.self.inside.history in
    let h' = c.write.new.self in
    let e : Entry = entry by (step.Rollback by) (end_answer c.end-ended.result) in
    let d : Entry = entry t (step.Rollback t) (end_answer c.end-ended.result) in
    let same : e ≡ d = λ j. entry (c.requires.own j) (step.Rollback (c.requires.own j)) (end_answer
    c.end-ended.result) in
    let is : IsHistory w h'.log v' = went w v v' h h' e d same i.2 c.write.ensures.log (c.end-ended.ensures.step.0)
    (own_rollback t (end_answer c.end-ended.result)) in
    end_leaves c.end-ended.result t v v' _ _
    (turned t w v v' h h' c.args.caller.now c.write.new.caller e i.1 i.2 is c.write.ensures.told c.write.ensures.log
    c.write.ensures.mine refl c.requires.own) c.end-ended.ensures.step.0
