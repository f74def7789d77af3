use Rattle.oe_theory.proofs.Theorems.{want_means, each_is_answered, answers_are_determined, scripts_are_answered}
use Rattle.oe_model.specs.System.{system}
use Rattle.oe_model.proofs.SystemLaws.{laws}
use Rattle.oe_model.proofs.answers_are_known.Goals as goal

pub returns : goal.returns
returns c = record {
  want_stands_for = want_means system laws;
  each_is_answered = each_is_answered system laws;
  answers_are_determined = answers_are_determined system laws;
  scripts_are_answered = scripts_are_answered system laws;
}
