use Rattle.std.proofs.Common.{◌<◌, refl, sym, ◌∙◌, ap, subst, ◌+◌, List, length, drop}
use Rattle.std.specs.List.{remove}
use Rattle.oe_table.proofs.FrontFacts.{drop-remove, drop-within}
use Rattle.oe_table.proofs.front_vec.FrontVec.remove.Goals as goal

pub returns : goal.returns
returns g c =
    let n = c.self.inside.gone in
    let items = c.self.inside.all.items in
    let within = drop-within n c.args.at items c.self.invariant
    (subst (λ (t : List g.row.T.Denot). c.args.at < length t) (sym c.self.view_is) c.requires) in
    ap (λ (t : List g.row.T.Denot). drop n t) c.remove.ensures.items
    ∙ drop-remove n c.args.at (n + c.args.at) items refl within ∙ ap
    (λ (t : List g.row.T.Denot). remove t c.args.at) c.self.view_is
