-- The record first, and then the change.
use Rattle.std.proofs.Common.{sym, subst, ◌∙◌}
use Rattle.oe_store.specs.Places.{rows}
use Rattle.oe_journal.specs.Linked.{AreLinked}
use Rattle.oe_writes.specs.Records.{record_of_write}
use Rattle.oe_journal.specs.Recorded.{Refused}
use Rattle.oe_change.specs.Writes.{key_written}
use Rattle.oe_journal.proofs.MoreFacts.{unpushed_places, unpushed, pushed_open, links_given_back, unpushed_linked}
use Rattle.oe_journal.proofs.RecordedFacts.{record_written, made_recorded, made_linked}
use Rattle.oe_journal.proofs.KeptNameFacts.{recorded_exact, still_exact}
use Rattle.oe_journal.proofs.writes.write.Goals as goal

pub pop-requires : goal.pop-requires
pop-requires g c =
    pushed_open (record_of_write c.args.undo.now.log.layout (g.W.OneWrite.write c.args.write.now) (rows
    c.args.tables.now))
    c.args.undo.now c.push.new.undo c.args.segment c.requires.open c.in_default.ensures.pushed

pub returns-in-Ok-clause-written : goal.returns-in-Ok-clause-written
returns-in-Ok-clause-written g c =
    made_recorded (g.W.OneWrite.write c.args.write.now) c.args.tables.now c.set.new.tables c.args.undo.now
    c.push.new.undo c.args.segment
    c.requires.open c.in_default.ensures.pushed c.in-Ok.ensures.made

pub returns-in-Ok-clause-linked : goal.returns-in-Ok-clause-linked
returns-in-Ok-clause-linked g c =
    made_linked (g.W.OneWrite.write c.args.write.now) c.args.tables.now c.set.new.tables c.args.undo.now
    c.push.new.undo c.args.segment
    c.requires.open c.in_default.ensures.pushed c.in-Ok.ensures.made
    c.requires.linked

pub returns-in-Err-set-clause-cause : goal.returns-in-Err-set-clause-cause
returns-in-Err-set-clause-cause g c =
    Refused c.in-Err-set.refusal c.in_default.ensures.room c.in-Err-set.ensures.refused

pub returns-in-Err-set-clause-linked : goal.returns-in-Err-set-clause-linked
returns-in-Err-set-clause-linked g c =
    c.give_up_unplaced.ensures.links.linked
    (subst (λ ts. AreLinked ts c.pop.new.self.links) (sym c.in-Err-set.ensures.unchanged)
    (unpushed_linked (record_of_write c.args.undo.now.log.layout (g.W.OneWrite.write c.args.write.now) (rows
    c.args.tables.now))
    c.args.undo.now c.push.new.undo c.args.segment c.requires.open c.in_default.ensures.pushed
    c.args.tables.now c.pop.new.self c.pop.ensures.links c.requires.linked))

pub returns-in-Err-set-clause-err_undo : goal.returns-in-Err-set-clause-err_undo
returns-in-Err-set-clause-err_undo g c =
    c.give_up_unplaced.ensures.log
    ∙ unpushed (record_of_write c.args.undo.now.log.layout (g.W.OneWrite.write c.args.write.now) (rows
    c.args.tables.now))
    c.args.undo.now c.push.new.undo c.args.segment c.requires.open c.in_default.ensures.pushed
    c.pop.new.self.log c.pop.ensures.log

pub returns-in-Err-set-clause-err_links : goal.returns-in-Err-set-clause-err_links
returns-in-Err-set-clause-err_links g c k =
    c.give_up_unplaced.ensures.seen k
    ∙ links_given_back (record_of_write c.args.undo.now.log.layout (g.W.OneWrite.write c.args.write.now) (rows
    c.args.tables.now))
    c.args.undo.now c.push.new.undo c.args.segment c.requires.open c.in_default.ensures.pushed
    c.pop.new.self c.is_chained.ensures.whole c.pop.ensures.log c.pop.ensures.links k

pub returns-in-Err-set-clause-err_places : goal.returns-in-Err-set-clause-err_places
returns-in-Err-set-clause-err_places g c k h =
    unpushed_places (record_of_write c.args.undo.now.log.layout (g.W.OneWrite.write c.args.write.now) (rows
    c.args.tables.now))
    c.args.undo.now c.push.new.undo c.args.segment c.requires.open c.in_default.ensures.pushed
    (key_written (g.W.OneWrite.write c.args.write.now))
    (record_written c.args.undo.now.log.layout (g.W.OneWrite.write c.args.write.now) (rows c.args.tables.now))
    c.pop.new.self
    c.pop.ensures.links k (c.give_up_unplaced.ensures.links.fewer k h)

pub returns-in-Ok-clause-exact : goal.returns-in-Ok-clause-exact
returns-in-Ok-clause-exact g c =
    recorded_exact (g.W.OneWrite.write c.args.write.now) c.args.tables.now c.set.new.tables c.args.undo.now
    c.push.new.undo c.args.segment
    (made_recorded (g.W.OneWrite.write c.args.write.now) c.args.tables.now c.set.new.tables c.args.undo.now
    c.push.new.undo c.args.segment
    c.requires.open c.in_default.ensures.pushed c.in-Ok.ensures.made)

pub returns-in-Err-set-clause-exact : goal.returns-in-Err-set-clause-exact
returns-in-Err-set-clause-exact g c =
    still_exact c.args.tables.now c.set.new.tables c.args.undo.now.log c.give_up_unplaced.new.undo.log
    c.in-Err-set.ensures.unchanged
    (c.give_up_unplaced.ensures.log
    ∙ unpushed (record_of_write c.args.undo.now.log.layout (g.W.OneWrite.write c.args.write.now) (rows
    c.args.tables.now))
    c.args.undo.now c.push.new.undo c.args.segment c.requires.open c.in_default.ensures.pushed
    c.pop.new.self.log c.pop.ensures.log)
