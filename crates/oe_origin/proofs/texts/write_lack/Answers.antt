use Rattle.std.proofs.Common.{◌++◌, ◌∷◌, [], append_assoc, ap, ◌∙◌}
use Rattle.std.specs.Prelude.{ℕ, List, codes}
use Rattle.oe_origin.specs.Texts.{lack_text, lack_line}
use Rattle.oe_origin.proofs.SentFacts.{streamed}
use Rattle.oe_origin.proofs.texts.write_lack.Goals as goal

pub returns : goal.returns
returns g c =
    let lack = lack_text c.args.lack.now in
    streamed (g.W.Outlet.sink c.args.to.now) (g.W.Outlet.sink c.flush.new.to) c.text-2.new.out.items
    c.flush.new.out.items (lack_line c.args.lack.now) c.flush.result c.flush.ensures.empty
    (c.text-2.ensures.items
    ∙ ap (λ (z : List ℕ). z ++ 10 ∷ [])
    (c.put_lack.ensures.items
    ∙ ap (λ (z : List ℕ). z ++ lack)
    (c.text.ensures.items ∙ ap (λ (z : List ℕ). z ++ codes "no population: ") c.new-out.ensures))
    ∙ append_assoc (codes "no population: ") lack (10 ∷ [])) c.flush.ensures.stream
