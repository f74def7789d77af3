use Rattle.std.proofs.Common.{◌≡◌, ◌≤◌, ◌+◌, ◌*◌, ◌++◌, drop}
use Rattle.std.specs.List.{flat_map}
use Rattle.arrayvec.specs.ArrayVec.{array_vec_len}
use Rattle.oe_texts.specs.Reply.{line_text}
use Rattle.oe_texts.proofs.replies.lines.Given as goal

-- what is still to come completes the text
abbrev pub invariant-loop-reply : goal.invariant-loop-reply
invariant-loop-reply l =
    (l.out.items ++ flat_map line_text (drop l.reply-index l.replies) ≡ l.initial.out.items
    ++ flat_map line_text l.replies)
    × (array_vec_len l.out ≤ array_vec_len l.initial.out + 37 * l.reply-index)
