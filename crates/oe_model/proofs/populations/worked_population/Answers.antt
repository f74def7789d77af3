use Rattle.std.proofs.Common.{refl}
use Rattle.oe_model.specs.PopulationLaws.{Worked_population}
use Rattle.oe_model.specs.Population.{dec, letters, syllable, dist_text}
use Rattle.oe_model.proofs.populations.worked_population.Goals as goal

worked : Worked_population
unfolding dec letters syllable dist_text
worked = record {
  prices = refl;
  quantities = refl;
  first_name = refl;
  tenth_name = refl;
  last_of_names = refl;
  dist_info = refl;
  first_customer = refl;
  letters_of_bad_credit = refl;
  delivered = refl;
  line_counts = refl;
  amounts = refl;
  not_delivered = refl;
  next_order = refl;
  district_ytd = refl;
  warehouse_ytd = refl;
}

pub returns : goal.returns
returns c = worked
