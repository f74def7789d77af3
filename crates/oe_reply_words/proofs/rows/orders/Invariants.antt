use Rattle.std.proofs.Common.{◌≡◌, drop}
use Rattle.std.specs.List.{list_any}
use Rattle.oe_reply_words.specs.Rows.{is_ordered}
use Rattle.oe_reply_words.proofs.rows.orders.Given as goal

-- none of the lines so far takes from the stock
abbrev pub invariant-loop-line : goal.invariant-loop-line
invariant-loop-line l = list_any (is_ordered l.key) (drop l.line-index l.lines) ≡ list_any (is_ordered l.key) l.lines
