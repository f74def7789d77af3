use Rattle.std.proofs.Common.{◌≡◌, sym, ◌∙◌, ap, subst, min, List, [], length, take, arith, Option, Some}
use Rattle.std.proofs.lemmas.List.Edits.{insert_end}
use Rattle.oe_table.specs.Table.{live}
use Rattle.oe_table.proofs.PassedFacts.{none-insert}
use Rattle.oe_table.proofs.shelf.Shelf.put_last.Goals as goal

pub invariant_of-self-2 : goal.invariant_of-self-2
invariant_of-self-2 g c =
    let old = c.self.inside.slots in
    let n = c.self.inside.blanked in
    let m = c.min-self-inside.result in
    let e : g.row.K.Denot × Option g.row.R.Denot = (c.args.key, Some c.args.row) in
    let is : m ≡ min n (length old) = c.min-self-inside.ensures ∙ ap
    (λ (t : List (g.row.K.Denot × Option g.row.R.Denot)). min n (length t))
    (c.slots-end.ensures ∙ sym c.self.view_is) in
    subst (λ (t : List (g.row.K.Denot × Option g.row.R.Denot)). live (take m t) ≡ [])
    (sym (c.in_default.ensures.ok ∙ sym (insert_end old e)))
    (none-insert old n m (length old) e is (omega arith) c.self.invariant)

pub returns-clause-ok : goal.returns-clause-ok
returns-clause-ok g c = rw (← c.self.view_is)
    (c.in_default.ensures.ok ∙ sym (insert_end c.self.inside.slots (c.args.key, Some c.args.row)))
