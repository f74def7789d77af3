use Rattle.std.proofs.Common.{rules}
use Rattle.oe_file_tables.proofs.TwiceFacts.{now_sorted}
use Rattle.oe_file_tables.proofs.tables.sort.Goals as goal

pub returns-in-Ok-clause-sorted : goal.returns-in-Ok-clause-sorted
returns-in-Ok-clause-sorted g c =
    now_sorted g.K.Ord.cmp g.met.K.Ord.total c.sort_by.new.self.items c.in-Ok.ensures.sorted (λ a r f' k. search rules)
