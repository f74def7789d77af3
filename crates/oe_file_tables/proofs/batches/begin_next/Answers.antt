use Rattle.std.proofs.Common.{◌++◌, ◌∷◌, [], ◌∙◌, rules}
use Rattle.oe_file_tables.proofs.BatchFacts.{joined_next}
use Rattle.oe_file_tables.proofs.batches.begin_next.Goals as goal

pub returns-in-Ok : goal.returns-in-Ok
returns-in-Ok g c =
    joined_next (λ v. v.items) c.args.full.now.items c.push_reserved.new.self.items c.args.last.now _
    (c.push_reserved.ensures.items ∙ (λ i. c.reserve.ensures.items i ++ c.replace.ensures.value i ∷ [])) (search rules)
