use Rattle.std.proofs.Common.{◌++◌, ◌∷◌, [], append_assoc, ap, ◌∙◌}
use Rattle.std.specs.Prelude.{ℕ, List, codes}
use Rattle.oe_origin.proofs.SentFacts.{streamed}
use Rattle.oe_from.specs.Gaps.{gap_text, gap_line}
use Rattle.oe_from.proofs.gaps.write_gap.Goals as goal

pub returns : goal.returns
returns g c =
    let gap = gap_text c.args.gap.now in
    streamed (g.W.Outlet.sink c.args.to.now) (g.W.Outlet.sink c.flush.new.to) c.text-2.new.out.items
    c.flush.new.out.items (gap_line c.args.gap.now) c.flush.result c.flush.ensures.empty
    (c.text-2.ensures.items
    ∙ ap (λ (z : List ℕ). z ++ 10 ∷ [])
    (c.put_gap.ensures.items
    ∙ ap (λ (z : List ℕ). z ++ gap)
    (c.text.ensures.items ∙ ap (λ (z : List ℕ). z ++ codes "no load: ") c.new-out.ensures))
    ∙ append_assoc (codes "no load: ") gap (10 ∷ [])) c.flush.ensures.stream
