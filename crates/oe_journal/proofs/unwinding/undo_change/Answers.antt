use Rattle.oe_layout.specs.Records.{record_of_own}
use Rattle.oe_journal.proofs.LinkedFacts.{gone_stay}
use Rattle.oe_journal.proofs.unwinding.undo_change.Goals as goal

pub returns-clause-links : goal.returns-clause-links
returns-clause-links c =
    gone_stay (record_of_own c.args.newest) c.args.tables.now c.undo_and_give_up.new.tables c.args.undo.now.links
    c.give_up_link.new.undo.links
    (c.undo_and_give_up.ensures.places) c.give_up_link.ensures.links
