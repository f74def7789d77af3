use Rattle.std.proofs.Common.{◌∙◌, ap, refl}
use Rattle.oe_requests.specs.declared.steps.Step.TheVariants as step
use Rattle.oe_history.specs.declared.views.Entry.{Entry}
use Rattle.oe_history.specs.Views.{entry}
use Rattle.oe_history.specs.Calls.{TheHistory}
use Rattle.oe_hall.specs.Histories.{IsHistory}
use Rattle.oe_hall.specs.Turns.{read_answer}
use Rattle.oe_hall.proofs.HistoryFacts.{went, happened, seen_all, own_read}
use Rattle.oe_hall.proofs.records.Recorded.read.Goals as goal

pub invariant_of-self : goal.invariant_of-self
invariant_of-self g c =
    let i = c.self.invariant in
    let by = c.args.caller.now.by in
    let w = g.J.Naming.names.opened in
    let v = g.M.Machine.world c.self.inside.core in
    let v' = g.M.Machine.world c.self.inside.core in
    let h = c.self.inside.history in
    let h' = c.write.new.self in
    let e : Entry = entry by (step.Read c.args.moment c.args.query.now) (read_answer c.read-read.result) in
    let is : IsHistory w h'.log v' = went w v v' h h' e e refl i.2 c.write.ensures.log (c.read-read.ensures.step.0)
    (own_read by c.args.moment c.args.query.now (read_answer c.read-read.result)) in
    (ap (λ (x : TheHistory). x.table) c.write.ensures.log ∙ i.0, i.1, is)

pub returns-clause-run : goal.returns-clause-run
returns-clause-run g c =
    let i = c.self.invariant in
    let by = c.args.caller.now.by in
    let w = g.J.Naming.names.opened in
    let v = g.M.Machine.world c.self.inside.core in
    let v' = g.M.Machine.world c.self.inside.core in
    let h = c.self.inside.history in
    let h' = c.write.new.self in
    let e : Entry = entry by (step.Read c.args.moment c.args.query.now) (read_answer c.read-read.result) in
    let is : IsHistory w h'.log v' = went w v v' h h' e e refl i.2 c.write.ensures.log (c.read-read.ensures.step.0)
    (own_read by c.args.moment c.args.query.now (read_answer c.read-read.result)) in
    happened w v' h'.log c.write.new.caller.seen
    (seen_all h h' c.args.caller.now c.write.new.caller e c.write.ensures.log c.write.ensures.mine) is
