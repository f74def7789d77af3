-- Each call is a step of the theory.
use Rattle.oe_log.proofs.LawFacts.{begun, opens, pushes, pops, seals, drops, cuts, reopens}
use Rattle.oe_log.proofs.laws.calls_are_steps.Goals as goal

pub returns : goal.returns
returns c = record {
  begun = begun;
  opens = opens;
  pushes = pushes;
  pops = pops;
  seals = seals;
  drops = drops;
  cuts = cuts;
  reopens = reopens;
}
