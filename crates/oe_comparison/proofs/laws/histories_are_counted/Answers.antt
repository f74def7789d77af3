use Rattle.oe_comparison.specs.Histories.{history_order}
use Rattle.oe_comparison.proofs.HistoryFacts.{history_exact, told_often}
use Rattle.oe_comparison.proofs.OftenFacts.{all_alone}
use Rattle.oe_comparison.proofs.laws.histories_are_counted.Goals as goal

pub returns : goal.returns
returns c = record {
  exact = history_exact;
  extra = λ theirs ours file order h p q. (told_often theirs ours file order h p q).0;
  missing = λ theirs ours file order h p q. (told_often theirs ours file order h p q).1;
  columns = all_alone history_order;
}
