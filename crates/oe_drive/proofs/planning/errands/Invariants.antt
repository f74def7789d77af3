use Rattle.std.proofs.Common.{◌≡◌}
use Rattle.oe_terms.specs.Errands.{words_after}
use Rattle.oe_drive.specs.Plans.{errands_of}
use Rattle.oe_drive.proofs.planning.errands.Given as goal

abbrev pub invariant-loop-before : goal.invariant-loop-before
invariant-loop-before l = (l.errands.items ≡ errands_of l.scale l.seed l.terminal l.before)
    × (l.words ≡ words_after l.scale l.seed l.terminal l.before)
