use Rattle.std.proofs.Common.{◌++◌, sym, ap, ◌∙◌}
use Rattle.oe_file_tables.proofs.BatchFacts.{joined_push}
use Rattle.oe_file_tables.proofs.batches.Batches.join.Goals as goal

pub loop-batch-preserved : goal.loop-batch-preserved
loop-batch-preserved g c =
    c.in_default.ensures.items ∙ ap (λ z. z ++ c.in-Some.batch.items) c.loop-batch.invariant
    ∙ sym (joined_push _ c.loop-batch.yielded c.in-Some.batch)
