use Rattle.std.proofs.Common.{◌≡◌, ◌+◌, ◌≤◌, length}
use Rattle.oe_reply_words.specs.Parts.{parts_of}
use Rattle.oe_reply_words.specs.Others.{first_other}
use Rattle.oe_reply_words.proofs.others.other_part.Given as goal

-- the parts that were passed are the same
abbrev pub invariant-loop-their_cut : goal.invariant-loop-their_cut
invariant-loop-their_cut l = record {
  same : first_other 0 (parts_of l.mark l.initial.left) (parts_of l.mark l.initial.right)
      ≡ first_other l.place (parts_of l.mark l.left) (parts_of l.mark l.right);
  theirs : l.place + length l.left ≤ length l.initial.left;
  ours : length l.right ≤ length l.initial.right;
}

abbrev pub decreases-loop-their_cut : goal.decreases-loop-their_cut
decreases-loop-their_cut l = length l.left
