use Rattle.std.proofs.Common.{◌≡◌, sym, ap, ◌∙◌}
use Rattle.oe_model.specs.Choice.{middle, namesakes}
use Rattle.oe_model.proofs.NamesFacts.{named_alike}
use Rattle.oe_store.specs.Places.{rows}
use Rattle.oe_versions.specs.Versions.{rows_of, version}
use Rattle.oe_versions.proofs.moments.Version.customer_named.Goals as goal
use Rattle.oe_versions.proofs.moments.Version.customer_named.Goals.{then-self-via-then-self}
use Rattle.oe_versions.proofs.moments.Version.customer_named.Goals.{then-self-via-else-self+then-keeps_names}

pub returns-then-self : goal.returns-then-self
returns-then-self c =
    let same : namesakes c.args.district.now c.args.last.now (rows_of c.args.self.now).customers
    ≡ namesakes c.args.district.now c.args.last.now (rows c.args.self.now.tables).customers =
    elim c.then-self.branch [
      | then-self-via-then-self w ↦ rw (← c.self.view_is)
          (named_alike c.args.district.now c.args.last.now
          (version c.self.inside.tables.now c.self.inside.undo.now.log c.self.inside.moment)
          (rows c.self.inside.tables.now) (c.self.invariant.names w.if-self.true))
      | then-self-via-else-self+then-keeps_names w ↦ w.keeps_names.ensures w.if-keeps_names.true
    ]
    in
    c.middle.ensures
    ∙ ap (λ ts. middle (namesakes c.args.district.now c.args.last.now (rows ts).customers)) c.tables.ensures
    ∙ ap middle (sym same)
