use Rattle.std.proofs.Common.{◌≡◌, ◌-◌, ◌+◌, suc, subst, arith}
use Rattle.oe_journal.proofs.LinkedFacts.{none_stay, then_stay}
use Rattle.oe_journal.proofs.UndoneFacts.{none_undone, one_undone, Undoes}
use Rattle.oe_journal.proofs.rewinds.take_newest.Goals as goal

pub loop-init : goal.loop-init
loop-init c = (
  none_undone c.args.tables.now c.args.undo.now.log c.args.count c.requires.quiet c.requires.enough c.requires.places
      c.requires.unwinds,
  none_stay c.args.tables.now c.args.undo.now.links,
  λ h. h,
)

pub loop-preserved : goal.loop-preserved
loop-preserved c =
    let one_less : c.args.count - c.loop.counter ≡ suc (c.args.count - (c.loop.counter + 1)) = omega arith in (
      one_undone c.args.tables.now c.loop.tables c.undo_newest.new.tables c.args.undo.now.log c.loop.undo.log
          c.undo_newest.new.undo.log c.args.count (c.args.count - (c.loop.counter + 1))
          c.undo_newest.ensures.log c.undo_newest.ensures.rows c.undo_newest.ensures.places
          (subst (Undoes c.args.tables.now c.loop.tables c.args.undo.now.log c.loop.undo.log c.args.count) one_less
          c.loop.invariant.0),
      then_stay c.args.tables.now c.loop.tables c.undo_newest.new.tables c.args.undo.now.links c.loop.undo.links
          c.undo_newest.new.undo.links c.loop.invariant.1 c.undo_newest.ensures.links,
      λ h. c.undo_newest.ensures.exact (c.loop.invariant.2 h),
    )

pub returns-clause-exact : goal.returns-clause-exact
returns-clause-exact c = c.loop.invariant.2
