use Rattle.std.proofs.Common.{sym, ap, ◌∙◌}
use Rattle.oe_model.specs.Rows.{row_at}
use Rattle.oe_store.specs.Places.{rows}
use Rattle.oe_versions.specs.Versions.{VersionState}
use Rattle.oe_versions.proofs.FoundFacts.{row_found}
use Rattle.oe_versions.proofs.moments.Version.row_counted.Goals as goal

pub returns-clause-row : goal.returns-clause-row
returns-clause-row c =
    rw (← c.self.view_is)
    (row_found c.self.inside.undo.now.log c.self.inside.moment c.is_chained.ensures.whole c.self.inside.tables.now
    c.args.key.now c.row_of-now.result c.row_at.result c.row_at.ensures.row
    (c.row_of-now.ensures
    ∙ ap (λ ts. row_at (rows ts) c.args.key.now) (c.tables.ensures
    ∙ ap (λ (s : VersionState). s.tables) (sym c.self.view_is))))
