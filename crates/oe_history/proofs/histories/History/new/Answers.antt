use Rattle.std.proofs.Common.{[], ◌∷◌}
use Rattle.oe_history.proofs.Steps.{begins}
use Rattle.oe_history.proofs.histories.History.new.Goals as goal

pub of_words-requires : goal.of_words-requires
of_words-requires c = begins 0 (0 ∷ [])
