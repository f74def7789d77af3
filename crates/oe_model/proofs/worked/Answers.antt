use Rattle.std.proofs.Common.{refl}
use Rattle.oe_model.proofs.worked.Goals as goal

pub returns : goal.returns
returns c = record {
  first = λ k x. refl;
  second = λ k x. refl;
  of_four = refl;
  of_three = refl;
  of_two = refl;
  of_none = refl;
}
