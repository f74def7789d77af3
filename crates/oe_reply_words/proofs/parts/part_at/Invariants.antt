use Rattle.std.proofs.Common.{◌≡◌, length}
use Rattle.oe_reply_words.specs.Parts.{word_at}
use Rattle.oe_reply_words.proofs.parts.part_at.Given as goal

-- `behind` parts further on stands the part that the caller asks for
abbrev pub invariant-loop-behind : goal.invariant-loop-behind
invariant-loop-behind l = word_at l.mark l.behind l.left ≡ word_at l.mark l.initial.behind l.initial.left

abbrev pub decreases-loop-behind : goal.decreases-loop-behind
decreases-loop-behind l = length l.left
