use Rattle.std.proofs.Common.{sym, ◌∙◌}
use Rattle.oe_file_loading.proofs.WholeFacts.{whole_is, whole_lacks, none_of, starts_with}
use Rattle.oe_file_loading.proofs.whole.whole.Goals as goal

pub returns-in-None : goal.returns-in-None
returns-in-None c =
    λ format old new l. whole_is format old new _ _ _ l
    (sym c.deref.ensures.value ∙ none_of c.deref.result.now c.in-None.ensures.item.3)

pub returns : goal.returns
returns c =
    let s = starts_with c.deref.result.now c.in-Some.first.now c.in-Some.ensures.item.3.0 c.in-Some.ensures.item.1 in
    λ format old new l. whole_lacks format old new _ _ _ l c.in-Some.first.now s.0 (sym c.deref.ensures.value ∙ s.1)
