use Rattle.std.proofs.Common.{sym, rules}
use Rattle.oe_file_tables.proofs.BatchFacts.{gathered_as, gathered_more, joined_more}
use Rattle.oe_file_tables.proofs.batches.Gathered.push.Goals as goal

pub invariant_of-self-in-Ok : goal.invariant_of-self-in-Ok
invariant_of-self-in-Ok g c =
    let f = c.self.inside in
    gathered_more g.K.Ord.cmp f.len _ f.is_ascending c.ascends_to-is_ascending.result c.args.self.now _ c.args.row
    (gathered_as g.K.Ord.cmp f.len f.is_ascending _ _ (sym c.self.view_is) c.self.invariant)
    (joined_more (λ v. v.items) f.full.items c.end_full.new.full.items f.last.items c.end_full.new.last.items
    c.push.new.self.items c.args.self.now c.args.row c.end_full.ensures c.self.view_is (search rules))
    (search rules) c.ascends_to-is_ascending.ensures
