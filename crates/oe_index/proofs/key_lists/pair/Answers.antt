-- A list without a key ascends, and one of a key.
use Rattle.oe_index.proofs.ListFacts.{none-ascends, alone-ascends}
use Rattle.oe_index.proofs.key_lists.pair.Goals as goal

pub put-requires : goal.put-requires
put-requires g c = none-ascends g.K.Ord.cmp c.empty-keys.result c.empty-keys.ensures

pub put-requires-2 : goal.put-requires-2
put-requires-2 g c =
    alone-ascends g.K.Ord.cmp c.empty-keys.result c.put.new.self c.args.first c.empty-keys.ensures
    c.in_default.ensures.ok
