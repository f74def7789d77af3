use Rattle.std.proofs.Common.{◌≡◌, ◌∙◌, ap, refl}
use Rattle.oe_requests.specs.declared.steps.Step.TheVariants as step
use Rattle.oe_history.specs.declared.views.Entry.{Entry}
use Rattle.oe_history.specs.Views.{entry}
use Rattle.oe_history.specs.Calls.{TheHistory}
use Rattle.oe_hall.specs.Histories.{IsHistory}
use Rattle.oe_hall.specs.Turns.{advance_answer}
use Rattle.oe_hall.proofs.HistoryFacts.{went, happened, seen_all, own_advance, turned, advance_leaves, carried}
use Rattle.oe_hall.proofs.records.Recorded.advance.Goals as goal

pub invariant_of-self : goal.invariant_of-self
invariant_of-self g c =
    let i = c.self.invariant in
    let by = c.args.caller.now.by in
    let t = c.args.terminal in
    let w = g.J.Naming.names.opened in
    let v = g.M.Machine.world c.self.inside.core in
    let v' = g.M.Machine.world c.advance-advanced.new.core in
    let h = c.self.inside.history in
    let h' = c.write.new.self in
    let e : Entry = entry by (step.Advance by) (advance_answer c.advance-advanced.result
    c.advance-advanced.new.reply) in
    let d : Entry = entry t (step.Advance t) (advance_answer c.advance-advanced.result c.advance-advanced.new.reply) in
    let same : e ≡ d = λ j. entry (c.requires.own j) (step.Advance (c.requires.own j)) (advance_answer
    c.advance-advanced.result c.advance-advanced.new.reply) in
    let is : IsHistory w h'.log v' = went w v v' h h' e d same i.2 c.write.ensures.log ((carried v v' t
    c.advance-advanced.result c.advance-advanced.new.reply c.advance-advanced.ensures.step).0) (own_advance t
    (advance_answer c.advance-advanced.result c.advance-advanced.new.reply)) in
    (ap (λ (x : TheHistory). x.table) c.write.ensures.log ∙ i.0, i.1, is)

pub returns-clause-run : goal.returns-clause-run
returns-clause-run g c =
    let i = c.self.invariant in
    let by = c.args.caller.now.by in
    let t = c.args.terminal in
    let w = g.J.Naming.names.opened in
    let v = g.M.Machine.world c.self.inside.core in
    let v' = g.M.Machine.world c.advance-advanced.new.core in
    let h = c.self.inside.history in
    let h' = c.write.new.self in
    let e : Entry = entry by (step.Advance by) (advance_answer c.advance-advanced.result
    c.advance-advanced.new.reply) in
    let d : Entry = entry t (step.Advance t) (advance_answer c.advance-advanced.result c.advance-advanced.new.reply) in
    let same : e ≡ d = λ j. entry (c.requires.own j) (step.Advance (c.requires.own j)) (advance_answer
    c.advance-advanced.result c.advance-advanced.new.reply) in
    let is : IsHistory w h'.log v' = went w v v' h h' e d same i.2 c.write.ensures.log ((carried v v' t
    c.advance-advanced.result c.advance-advanced.new.reply c.advance-advanced.ensures.step).0) (own_advance t
    (advance_answer c.advance-advanced.result c.advance-advanced.new.reply)) in
    happened w v' h'.log c.write.new.caller.seen
    (seen_all h h' c.args.caller.now c.write.new.caller e c.write.ensures.log c.write.ensures.mine) is

pub returns-clause-open : goal.returns-clause-open
returns-clause-open g c =
    let i = c.self.invariant in
    let by = c.args.caller.now.by in
    let t = c.args.terminal in
    let w = g.J.Naming.names.opened in
    let v = g.M.Machine.world c.self.inside.core in
    let v' = g.M.Machine.world c.advance-advanced.new.core in
    let h = c.self.inside.history in
    let h' = c.write.new.self in
    let e : Entry = entry by (step.Advance by) (advance_answer c.advance-advanced.result
    c.advance-advanced.new.reply) in
    let d : Entry = entry t (step.Advance t) (advance_answer c.advance-advanced.result c.advance-advanced.new.reply) in
    let same : e ≡ d = λ j. entry (c.requires.own j) (step.Advance (c.requires.own j)) (advance_answer
    c.advance-advanced.result c.advance-advanced.new.reply) in
    let is : IsHistory w h'.log v' = went w v v' h h' e d same i.2 c.write.ensures.log ((carried v v' t
    c.advance-advanced.result c.advance-advanced.new.reply c.advance-advanced.ensures.step).0) (own_advance t
    (advance_answer c.advance-advanced.result c.advance-advanced.new.reply)) in
    advance_leaves c.advance-advanced.result c.advance-advanced.new.reply t v v' _ _
    (turned t w v v' h h' c.args.caller.now c.write.new.caller e i.1 i.2 is c.write.ensures.told c.write.ensures.log
    c.write.ensures.mine refl c.requires.own) c.advance-advanced.ensures.step
