use Rattle.std.proofs.Common.{None}
use Rattle.oe_script.specs.Hearing.{HearsEach}
use Rattle.oe_script.proofs.Ending.{heard_map}
use Rattle.oe_explain.specs.Explaining.{Said, SaysOne}
use Rattle.oe_explain.proofs.SayingFacts.{said}
use Rattle.oe_explain.proofs.explaining.explain_script.Goals as goal

pub returns : goal.returns
returns g c =
    let old = c.args.explainer.now in
    let new = c.hear_script.new.listener in
    let sink = g.E.Outlet.sink in
    heard_map None tt (λ told. HearsEach
    (λ a x b. SaysOne a.has_failed b.has_failed (sink a.to) (sink b.to) x) old told new)
    (Said new.has_failed (sink old.to) (sink new.to))
    (λ told h. said (λ x. x.has_failed) (λ x. sink x.to) old told new c.requires h)
    (g.R.Intake.source c.args.reader.now) (g.R.Intake.source c.hear_script.new.reader)
    (g.W.Outlet.sink c.args.writer.now) (g.W.Outlet.sink c.hear_script.new.writer) c.hear_script.result
    c.hear_script.ensures.heard
