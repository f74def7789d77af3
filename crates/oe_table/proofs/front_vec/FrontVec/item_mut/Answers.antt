use Rattle.std.proofs.Common.{◌<◌, refl, sym, ◌∙◌, ap, subst, ◌+◌, List, length, get_or, set}
use Rattle.oe_table.proofs.FrontFacts.{drop-set, drop-within, get_or-drop}
use Rattle.oe_table.proofs.front_vec.FrontVec.item_mut.Goals as goal

pub returns : goal.returns
returns g c =
    let n = c.self.inside.gone in
    let items = c.self.inside.all.items in
    let here = c.index_mut.result.now in
    let within : n + c.args.at < length items = drop-within n c.args.at items c.self.invariant
    (subst (λ (t : List g.row.T.Denot). c.args.at < length t) (sym c.self.view_is) c.requires) in (
      (
        refl,
        (λ w. drop-set n c.args.at (n + c.args.at) items w refl ∙ ap
            (λ (t : List g.row.T.Denot). set t c.args.at w) c.self.view_is),
      ),
      record {
        writes_back = tt;
        value = c.index_mut.ensures.value ∙ get_or-drop n c.args.at (n + c.args.at) items here refl within
            ∙ ap (λ (t : List g.row.T.Denot). get_or t c.args.at here) c.self.view_is;
      },
    )
