use Rattle.oe_undo.proofs.CallFacts.{none, opens, drops, pushes, pops, seals, reopens, purges, gives_up}
use Rattle.oe_undo.proofs.laws.calls_keep_chains.Goals as goal

pub returns : goal.returns
returns c = record {
  none = none;
  opens = opens;
  drops = drops;
  pushes = pushes;
  pops = pops;
  seals = seals;
  reopens = reopens;
  purges = purges;
  gives_up = gives_up;
}
