-- The newest commit is opened again, its records are put back, and it goes.
use Rattle.std.proofs.Common.{◌≡◌, ℕ, ◌<◌, length, ◌∙◌, sym, ap, subst, refl, arith, take, drop, true, is_some}
use Rattle.oe_theory.specs.Undo.{unwind}
use Rattle.oe_model.specs.System.{system}
use Rattle.oe_store.specs.Places.{rows}
use Rattle.oe_log.specs.Log.{SegmentLog, active_at, records_at, with_records}
use Rattle.oe_log.specs.Stands.{undo_of}
use Rattle.oe_journal.specs.GoesBack.{CanUnwind}
use Rattle.oe_journal.proofs.LinkedFacts.{then_stay, links_stay, no_links_set}
use Rattle.oe_journal.proofs.RewindFacts.{IsNewest, newest_found, newest_open, newest_gone, none_recorded}
use Rattle.oe_journal.proofs.UndoneFacts.{own_places, own_can, newest_undone, newest_given_up, newest_exact}
use Rattle.oe_journal.proofs.rewinds.undo_newest.Goals.{After-segments-2, After-take_back}
use Rattle.oe_journal.proofs.rewinds.undo_newest.Goals as goal

found : (c : After-segments-2) → IsNewest c.args.undo.now.log c.in-Some.segment
found c =
    let all = ap (λ (v : SegmentLog). length v.terminals) c.segments.ensures in
    let within : c.in-Some.segment < length c.args.undo.now.log.terminals =
    omega (
      arith,
      all,
      c.get-terminal.ensures.value,
      c.get-terminal.ensures.high,
      c.terminal.ensures,
      c.terminals_are.ensures,
    ) in
    newest_found c.args.undo.now.log c.args.undo.now.log.committed c.in-Some.segment refl c.in-Some.ensures.segment
    within

is_open : (c : After-segments-2) → is_some (active_at c.reopen_newest.new.self.log c.in-Some.segment) ≡ true
is_open c = ap is_some
    (newest_open c.args.undo.now.log c.reopen_newest.new.self.log c.in-Some.segment (found c)
    c.reopen_newest.ensures.reopened)

-- all of its records
all : (v u : SegmentLog) (t n : ℕ) → n ≡ length (records_at v t) → v ≡ u → n ≡ length (records_at u t)
all v u t n many same = many ∙ ap (λ z. length (records_at z t)) same

taken : (c : After-take_back) → c.take_back.new.undo.log
    ≡ with_records c.reopen_newest.new.self.log c.in-Some.segment
    (drop (length (records_at c.reopen_newest.new.self.log c.in-Some.segment))
    (records_at c.reopen_newest.new.self.log c.in-Some.segment))
taken c =
    c.take_back.ensures.log
    ∙ ap (λ n. with_records c.reopen_newest.new.self.log c.in-Some.segment
    (drop n (records_at c.reopen_newest.new.self.log c.in-Some.segment))) (all _ _ c.in-Some.segment _
    c.mark-count.ensures c.segments-2.ensures)

pub mark-count-requires : goal.mark-count-requires
mark-count-requires c = ap (λ v. is_some (active_at v c.in-Some.segment)) c.segments-2.ensures ∙ is_open c

pub take_back-requires-clause-open : goal.take_back-requires-clause-open
take_back-requires-clause-open c = is_open (goal.at.take_back-requires-clause-open c).After-segments-2

pub take_back-requires-clause-places : goal.take_back-requires-clause-places
take_back-requires-clause-places c =
    own_places c.args.tables.now c.args.undo.now.log c.reopen_newest.new.self.log c.in-Some.segment
    (found (goal.at.take_back-requires-clause-places c).After-segments-2) c.reopen_newest.ensures.reopened
    c.requires.places

pub take_back-requires-clause-unwinds : goal.take_back-requires-clause-unwinds
take_back-requires-clause-unwinds c =
    subst (λ n. CanUnwind (take n ((undo_of c.reopen_newest.new.self.log).active c.in-Some.segment))
    (rows c.args.tables.now)) (sym (all _ _ c.in-Some.segment _ c.mark-count.ensures c.segments-2.ensures))
    (own_can c.args.tables.now c.args.undo.now.log c.reopen_newest.new.self.log c.in-Some.segment
    (found (goal.at.take_back-requires-clause-unwinds c).After-segments-2) c.reopen_newest.ensures.reopened
    c.requires.unwinds)

pub drop_segment-requires-clause-open : goal.drop_segment-requires-clause-open
drop_segment-requires-clause-open c =
    c.take_back.ensures.back.others.is_open c.in-Some.segment ∙ is_open
    (goal.at.drop_segment-requires-clause-open c).After-segments-2

pub drop_segment-requires-clause-empty : goal.drop_segment-requires-clause-empty
drop_segment-requires-clause-empty c =
    none_recorded c.args.undo.now.log c.reopen_newest.new.self.log c.in-Some.segment
    (found (goal.at.drop_segment-requires-clause-empty c).After-segments-2) c.reopen_newest.ensures.reopened
    c.take_back.new.undo.log (taken (goal.at.drop_segment-requires-clause-empty c).After-take_back)

pub returns-clause-rows : goal.returns-clause-rows
returns-clause-rows c =
    newest_undone c.args.tables.now c.args.undo.now.log c.reopen_newest.new.self.log c.in-Some.segment
    (found (goal.at.returns-clause-rows c).After-segments-2) c.reopen_newest.ensures.reopened
    c.take_back.new.tables
    (c.take_back.ensures.back.rows
    ∙ ap (λ n. unwind system (take n ((undo_of c.reopen_newest.new.self.log).active c.in-Some.segment))
    (rows c.args.tables.now)) (all _ _ c.in-Some.segment _ c.mark-count.ensures c.segments-2.ensures))

pub returns-clause-log : goal.returns-clause-log
returns-clause-log c =
    c.drop_segment.ensures.log
    ∙ newest_gone c.args.undo.now.log c.reopen_newest.new.self.log c.in-Some.segment
    (found (goal.at.returns-clause-log c).After-segments-2) c.reopen_newest.ensures.reopened
    c.requires.quiet c.take_back.new.undo.log (taken (goal.at.returns-clause-log c).After-take_back)

pub returns-clause-places : goal.returns-clause-places
returns-clause-places c =
    let n = found (goal.at.returns-clause-places c).After-segments-2 in
    newest_given_up c.args.tables.now c.take_back.new.tables c.args.undo.now.log c.reopen_newest.new.self.log
    c.take_back.new.undo.log c.drop_segment.new.self.log c.in-Some.segment n
    c.reopen_newest.ensures.reopened (c.requires.quiet c.in-Some.segment) c.take_back.ensures.back.others.places
    c.drop_segment.ensures.log
    (none_recorded c.args.undo.now.log c.reopen_newest.new.self.log c.in-Some.segment n c.reopen_newest.ensures.reopened
    c.take_back.new.undo.log (taken (goal.at.returns-clause-places c).After-take_back))

pub returns-clause-links : goal.returns-clause-links
returns-clause-links c =
    let first = no_links_set c.args.undo.now.links c.reopen_newest.new.self.links c.reopen_newest.ensures.links in
    let last = no_links_set c.take_back.new.undo.links c.drop_segment.new.self.links c.drop_segment.ensures.links in
    then_stay c.args.tables.now c.args.tables.now c.take_back.new.tables c.args.undo.now.links
    c.reopen_newest.new.self.links c.drop_segment.new.self.links
    (links_stay c.args.tables.now c.args.undo.now.links c.reopen_newest.new.self.links first)
    (then_stay c.args.tables.now c.take_back.new.tables c.take_back.new.tables c.reopen_newest.new.self.links
    c.take_back.new.undo.links c.drop_segment.new.self.links
    c.take_back.ensures.links
    (links_stay c.take_back.new.tables c.take_back.new.undo.links c.drop_segment.new.self.links last))

pub returns-clause-exact : goal.returns-clause-exact
returns-clause-exact c =
    let n = found (goal.at.returns-clause-exact c).After-segments-2 in
    newest_exact c.args.tables.now c.take_back.new.tables c.args.undo.now.log c.reopen_newest.new.self.log
    c.take_back.new.undo.log c.drop_segment.new.self.log c.in-Some.segment n
    c.reopen_newest.ensures.reopened (c.requires.quiet c.in-Some.segment) c.take_back.ensures.exact
    c.drop_segment.ensures.log
    (none_recorded c.args.undo.now.log c.reopen_newest.new.self.log c.in-Some.segment n c.reopen_newest.ensures.reopened
    c.take_back.new.undo.log (taken (goal.at.returns-clause-exact c).After-take_back))
