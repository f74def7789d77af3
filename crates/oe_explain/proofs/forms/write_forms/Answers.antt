use Rattle.std.proofs.Common.{◌++◌, ap, ◌∙◌}
use Rattle.oe_reasons.specs.Shapes.{forms_text}
use Rattle.oe_explain.proofs.SayingFacts.{flushed}
use Rattle.oe_explain.proofs.forms.write_forms.Goals as goal

pub returns : goal.returns
returns g c =
    flushed (g.W.Outlet.sink c.args.to.now) (g.W.Outlet.sink c.flush.new.to) c.list_forms.new.out.items
    c.flush.new.out.items forms_text c.flush.result c.flush.ensures.empty
    (c.list_forms.ensures ∙ ap (λ z. z ++ forms_text) c.new-out.ensures) c.flush.ensures.stream
