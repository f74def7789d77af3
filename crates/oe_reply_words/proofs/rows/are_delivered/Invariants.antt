use Rattle.std.proofs.Common.{◌≡◌, length}
use Rattle.std.specs.List.{list_any}
use Rattle.oe_reply_words.specs.Parts.{parts_of}
use Rattle.oe_reply_words.specs.Rows.{is_delivered}
use Rattle.oe_reply_words.proofs.rows.are_delivered.Given as goal

-- none of the parts so far tells of the customer
abbrev pub invariant-loop-cut : goal.invariant-loop-cut
invariant-loop-cut l =
    list_any (is_delivered l.key) (parts_of 32 l.left) ≡ list_any (is_delivered l.key) (parts_of 32 l.initial.left)

abbrev pub decreases-loop-cut : goal.decreases-loop-cut
decreases-loop-cut l = length l.left
