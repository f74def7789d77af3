use Rattle.std.proofs.Common.{rules}
use Rattle.oe_comparison.proofs.HistoryFacts.{now_sorted}
use Rattle.oe_comparison.proofs.histories.sort.Goals as goal

pub returns-in-Ok : goal.returns-in-Ok
returns-in-Ok c = record {
  moved = c.sort_by.ensures.permutation;
  ordered = now_sorted c.sort_by.new.self.items c.in-Ok.ensures.sorted (λ a r f' k. search rules);
}
