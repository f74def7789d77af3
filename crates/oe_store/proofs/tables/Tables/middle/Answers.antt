use Rattle.oe_store.proofs.ChoiceFacts.{met, middle_starts}
use Rattle.oe_store.proofs.tables.Tables.middle.Goals as goal

pub loop-key-init : goal.loop-key-init
loop-key-init c = middle_starts c.args.district.now c.args.last.now _ _
    (met c.args.district.now c.args.last.now c.into_iter-key-iterator.ensures.into_iter_gives
    c.namesakes_of-key-items.ensures)
