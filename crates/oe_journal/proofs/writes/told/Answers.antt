-- A refusal for each cause.
use Rattle.std.proofs.Common.{sym, subst}
use Rattle.oe_requests.specs.declared.refusals.Refusal.TheVariants.{NoSuchRow}
use Rattle.oe_journal.specs.Recorded.{CantWrite, Absent, Full, Refused, IsNotPushed}
use Rattle.oe_journal.proofs.writes.told.Goals as goal

pub returns-in-Absent : goal.returns-in-Absent
returns-in-Absent g c =
    subst (λ k. CantWrite (g.W.OneWrite.write c.args.write.now) c.args.tables.now c.args.undo.now.log
    c.args.segment (NoSuchRow k))
    (sym c.key.ensures)
    (Absent (subst (IsNotPushed (g.W.OneWrite.write c.args.write.now) c.args.tables.now c.args.undo.now.log
    c.args.segment) c.in-Absent.is
    c.requires))

pub returns-in-Full : goal.returns-in-Full
returns-in-Full g c =
    Full (subst (IsNotPushed (g.W.OneWrite.write c.args.write.now) c.args.tables.now c.args.undo.now.log
    c.args.segment) c.in-Full.is
    c.requires)

pub unplaced-requires-clause-there : goal.unplaced-requires-clause-there
unplaced-requires-clause-there g c =
    (subst (IsNotPushed (g.W.OneWrite.write c.args.write.now) c.args.tables.now c.args.undo.now.log c.args.segment)
    c.in-Unplaced.is
    c.requires).0

pub unplaced-requires-clause-unplaced : goal.unplaced-requires-clause-unplaced
unplaced-requires-clause-unplaced g c =
    (subst (IsNotPushed (g.W.OneWrite.write c.args.write.now) c.args.tables.now c.args.undo.now.log c.args.segment)
    c.in-Unplaced.is
    c.requires).2

pub returns-in-Unplaced : goal.returns-in-Unplaced
returns-in-Unplaced g c =
    let fits = (subst (IsNotPushed (g.W.OneWrite.write c.args.write.now) c.args.tables.now c.args.undo.now.log
    c.args.segment)
    c.in-Unplaced.is c.requires).1 in
    Refused c.unplaced.result fits c.unplaced.ensures
