use Rattle.std.proofs.Common.{ap, codes}
use Rattle.oe_script.specs.Session.{state_of}
use Rattle.oe_script.proofs.OpenFacts.{opened_line, opening_taken}
use Rattle.oe_script.proofs.outcome.first.Goals as goal

pub returns-in-None : goal.returns-in-None
returns-in-None g c = λ line short says. (
  codes "opened\n",
  opened_line c.in-Open.scale c.in-Open.ring (g.M.Machine.world c.in-Ok.made) c.args.asked.now
      (state_of g.M.Machine.world c.replace-old.new.self)
      c.in-Ok.ensures c.in-Open.is (ap (state_of g.M.Machine.world) c.replace-old.ensures.after)
      c.args.number line short says,
  c.opened.ensures.items,
  opening_taken c.in-Open.scale c.in-Open.ring c.args.asked.now c.in-Open.is line short says,
)
