use Rattle.std.proofs.Common.{◌≡◌}
use Rattle.oe_terms.specs.Errands.{words_after}
use Rattle.oe_terms.proofs.errands.request.Given as goal

abbrev pub invariant-loop-before : goal.invariant-loop-before
invariant-loop-before l = l.words ≡ words_after l.scale l.seed l.terminal l.before
