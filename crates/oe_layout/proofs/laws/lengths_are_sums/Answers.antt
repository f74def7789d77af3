-- Column by column.
use Rattle.oe_layout.proofs.LengthFacts.{key_long, row_long, record_long}
use Rattle.oe_layout.proofs.laws.lengths_are_sums.Goals as goal

pub returns : goal.returns
returns c = record {
  keys = λ k. (key_long k).is;
  rows = λ r h. (row_long r h).is;
  records = λ p b h. (record_long p b h).is;
}
