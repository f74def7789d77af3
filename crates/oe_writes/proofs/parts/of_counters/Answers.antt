-- The other columns stay: S_DIST_01 to S_DIST_10, and S_DATA.
use Rattle.std.proofs.Common.{◌≡◌, ℕ, List, None, Some, cond, refl, sym, ap}
use Rattle.std.specs.Cmp.Lexicographic.{bytes_decides}
use Rattle.oe_rows.specs.Before.{text_before}
use Rattle.oe_rows.proofs.ListFacts.{ten_same}
use Rattle.oe_writes.proofs.parts.of_counters.Goals as goal

stays : (text : List ℕ) → None ≡ text_before text text
stays text = sym (ap (λ b. cond b None (Some text)) ((bytes_decides text text).1 refl))

pub returns : goal.returns
returns c = λ i. record {
  quantity = c.number_before.ensures i;
  dist_info = ten_same c.args.row.now.dist_info c.figures-figures.ensures.ranges.ten_infos i;
  ytd = c.number_before-2.ensures i;
  order_count = c.number_before-3.ensures i;
  remote_count = c.number_before-4.ensures i;
  «data» = stays c.args.row.now.data i;
}
