use Rattle.std.proofs.Common.{◌≡◌, ◌≤◌, ◌+◌, ◌*◌, ◌++◌, drop}
use Rattle.std.specs.List.{flat_map}
use Rattle.arrayvec.specs.ArrayVec.{array_vec_len}
use Rattle.oe_texts.specs.Reply.{status_line_text}
use Rattle.oe_texts.proofs.replies.status_lines.Given as goal

-- what is still to come completes the text
abbrev pub invariant-loop-line : goal.invariant-loop-line
invariant-loop-line l =
    (l.out.items ++ flat_map status_line_text (drop l.line-index l.lines) ≡ l.initial.out.items
    ++ flat_map status_line_text l.lines)
    × (array_vec_len l.out ≤ array_vec_len l.initial.out + 77 * l.line-index)
