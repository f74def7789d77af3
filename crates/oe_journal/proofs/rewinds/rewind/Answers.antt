use Rattle.std.proofs.Common.{◌≡◌, ◌-◌, ◌∙◌, ap, take}
use Rattle.oe_theory.specs.Undo.{unwind_commits}
use Rattle.oe_model.specs.System.{system}
use Rattle.oe_store.specs.Places.{rows}
use Rattle.oe_log.specs.Stands.{undo_of}
use Rattle.oe_log.specs.Moments.{store_with, newest}
use Rattle.oe_journal.specs.Rewinds.{without_newest}
use Rattle.oe_journal.proofs.UndoneFacts.{rewound_is}
use Rattle.oe_journal.proofs.rewinds.rewind.Goals as goal

pub returns-in-Ok-clause-rewound : goal.returns-in-Ok-clause-rewound
returns-in-Ok-clause-rewound c =
    let count : c.in-Ok.later ≡ newest c.args.undo.now.log - c.args.moment = c.in-Ok.ensures.count
    ∙ ap (λ v. newest v - c.args.moment) c.segments-2.ensures in
    let put : rows c.take_newest.new.tables ≡ unwind_commits system
    (take (newest c.args.undo.now.log - c.args.moment) (undo_of c.args.undo.now.log).history)
    (rows c.args.tables.now) =
    c.take_newest.ensures.rows
    ∙ ap (λ n. unwind_commits system (take n (undo_of c.args.undo.now.log).history) (rows c.args.tables.now))
    count in
    λ slots.
    ap (λ z. store_with (rows c.take_newest.new.tables) z slots)
    (c.take_newest.ensures.log ∙ ap (λ n. without_newest n c.args.undo.now.log) count)
    ∙ rewound_is c.args.tables.now c.take_newest.new.tables c.args.undo.now.log c.args.moment slots put
