use Rattle.std.proofs.Common.{rules, subst}
use Rattle.oe_history.specs.Calls.{TheCaller}
use Rattle.oe_hall.specs.Turns.{PurgeCall}
use Rattle.oe_hall.proofs.purger.Purger.purge.Goals as goal

pub returns-clause-turn : goal.returns-clause-turn
returns-clause-turn g c =
    let e = c.purge.ensures in (
      subst (λ (x : TheCaller). PurgeCall x c.purge.result c.purge.new.caller) c.self.view_is e.called,
      c.deref_mut.result.now,
      c.purge.new.self,
      e.hall.0,
      e.hall.1,
      search rules,
      e.turn,
      e.seen,
    )
