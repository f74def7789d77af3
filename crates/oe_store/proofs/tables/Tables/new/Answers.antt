use Rattle.oe_store.proofs.SoundFacts.{sound_empty}
use Rattle.oe_store.proofs.tables.Tables.new.Goals as goal

pub invariant_of-result : goal.invariant_of-result
invariant_of-result c =
    rw (
      c.new.ensures.rows,
      c.new-2.ensures.rows,
      c.new-3.ensures.rows,
      c.new-4.ensures.rows,
      c.new-5.ensures.rows,
      c.new-6.ensures.rows,
      c.new-7.ensures.rows,
      c.new-8.ensures.rows,
      c.new-9.ensures.rows,
    ) sound_empty
