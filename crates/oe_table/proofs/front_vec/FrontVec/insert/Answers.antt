use Rattle.std.proofs.Common.{refl, ◌∙◌, ap, ◌+◌, List, drop}
use Rattle.std.specs.List.{insert}
use Rattle.oe_table.proofs.FrontFacts.{drop-insert}
use Rattle.oe_table.proofs.front_vec.FrontVec.insert.Goals as goal

pub returns-clause-ok : goal.returns-clause-ok
returns-clause-ok g c =
    let n = c.self.inside.gone in
    ap (λ (t : List g.row.T.Denot). drop n t) c.in_default.ensures.items
    ∙ drop-insert n c.args.at (n + c.args.at) c.self.inside.all.items c.args.item refl c.self.invariant
    ∙ ap (λ (t : List g.row.T.Denot). insert t c.args.at c.args.item) c.self.view_is
