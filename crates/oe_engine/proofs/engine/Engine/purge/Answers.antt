use Rattle.oe_engine.specs.View.{view_of, view_from}
use Rattle.oe_engine.proofs.PastFacts.{purge_sound, purge_named, purge_view}
use Rattle.oe_engine.proofs.engine.Engine.purge.Goals as goal

pub invariant_of-self : goal.invariant_of-self
unfolding view_of
invariant_of-self c =
    record {
      sound = purge_sound c.purge.result c.self.inside.tables c.purge.new.tables c.self.inside.undo c.purge.new.undo
          c.self.inside.locks c.args.moment
          c.purge.ensures.log c.purge.ensures.rows c.purge.ensures.places c.purge.ensures.links c.purge.ensures.err
          c.self.invariant.sound;
      named = purge_named c.purge.result c.self.inside.tables c.purge.new.tables c.self.inside.undo c.purge.new.undo
          c.self.inside.locks c.args.moment c.self.inside.renames
          c.purge.ensures.log c.purge.ensures.rows c.purge.ensures.err c.self.invariant.named;
    }

pub returns-clause-purged : goal.returns-clause-purged
unfolding view_of
returns-clause-purged c =
    rw (← c.self.view_is)
    (purge_view c.purge.result c.self.inside.tables c.purge.new.tables c.self.inside.undo c.purge.new.undo
    c.self.inside.locks c.args.moment c.purge.ensures.log c.purge.ensures.rows)

pub returns-clause-places : goal.returns-clause-places
unfolding view_of view_from
returns-clause-places c = rw (← c.self.view_is) c.purge.ensures.places
