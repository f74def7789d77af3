use Rattle.std.proofs.Common.{◌<◌, refl, sym, ◌∙◌, ap, subst, ◌+◌, List, length, arith}
use Rattle.std.specs.List.{remove}
use Rattle.oe_table.proofs.FrontFacts.{drop-next, drop-within}
use Rattle.oe_table.proofs.front_vec.FrontVec.remove_first.Goals as goal

pub returns-else-len-self : goal.returns-else-len-self
returns-else-len-self g c =
    let n = c.self.inside.gone in
    let items = c.self.inside.all.items in
    let within = drop-within n 0 items c.self.invariant
    (subst (λ (t : List g.row.T.Denot). 0 < length t) (sym c.self.view_is) c.requires) in
    drop-next n (n + 1) items refl (omega (arith, within)) ∙ ap (λ (t : List g.row.T.Denot). remove t 0) c.self.view_is

pub returns-then-len-self : goal.returns-then-len-self
returns-then-len-self g c =
    let n = c.self.inside.gone in
    let items = c.self.inside.all.items in
    let within = drop-within n 0 items c.self.invariant
    (subst (λ (t : List g.row.T.Denot). 0 < length t) (sym c.self.view_is) c.requires) in
    c.compact.ensures ∙ drop-next n (n + 1) items refl (omega (arith, within))
    ∙ ap (λ (t : List g.row.T.Denot). remove t 0) c.self.view_is
