use Rattle.std.proofs.Common.{ap, ◌∙◌}
use Rattle.oe_log.specs.Moments.{newest}
use Rattle.oe_engine.specs.View.{view_of}
use Rattle.oe_engine.proofs.PastFacts.{commits_go_back, rewind_sound, rewind_named, rewind_view, rewind_cause}
use Rattle.oe_engine.proofs.engine.Engine.rewind.Goals as goal

pub rewind-answer-requires-clause-unwinds : goal.rewind-answer-requires-clause-unwinds
rewind-answer-requires-clause-unwinds c = commits_go_back c.self.inside.tables c.self.inside.undo.log
    c.self.inside.locks c.self.invariant.sound.safe

pub invariant_of-self : goal.invariant_of-self
invariant_of-self c =
    let quiet = rw c.in-Ok.is at c.rewind-answer.ensures.quiet in
    let log = rw c.in-Ok.is at c.rewind-answer.ensures.log in
    let rewound = rw c.in-Ok.is at c.rewind-answer.ensures.rewound in
    record {
      sound = rewind_sound c.rewind-answer.result c.self.inside.tables c.rewind-answer.new.tables c.self.inside.undo
          c.rewind-answer.new.undo c.self.inside.locks c.args.moment
          c.rewind-answer.ensures.quiet c.rewind-answer.ensures.log c.rewind-answer.ensures.rewound
          c.rewind-answer.ensures.places c.rewind-answer.ensures.links c.rewind-answer.ensures.err
          c.rewind-answer.ensures.err_tables
          c.schema_holds.ensures c.self.invariant.sound;
      named = rewind_named c.self.inside.tables c.rewind-answer.new.tables c.self.inside.undo c.rewind-answer.new.undo
          c.self.inside.locks c.args.moment c.none-self-inside.result quiet log rewound
          (c.none-self-inside.ensures.since ∙ c.newest.ensures.moment ∙ ap newest c.segments.ensures);
    }

pub returns-in-Ok-clause-rewound : goal.returns-in-Ok-clause-rewound
unfolding view_of
returns-in-Ok-clause-rewound c =
    let seen = rewind_view c.rewind-answer.result c.self.inside.tables c.rewind-answer.new.tables c.self.inside.undo
    c.rewind-answer.new.undo c.self.inside.locks c.args.moment
    c.rewind-answer.ensures.quiet c.rewind-answer.ensures.log c.rewind-answer.ensures.rewound in
    rw (← c.self.view_is) (rw c.in-Ok.is at seen)

pub returns-in-Err-clause-cause : goal.returns-in-Err-clause-cause
unfolding view_of
returns-in-Err-clause-cause c =
    let cause = rewind_cause c.rewind-answer.result c.self.inside.tables c.self.inside.undo.log c.self.inside.locks
    c.args.moment c.self.invariant.sound.kept.size c.rewind-answer.ensures.cause in
    rw (← c.self.view_is) (rw c.in-Err.is at cause)
