use Rattle.std.proofs.Common.{◌≡◌, ◌≤◌, ◌+◌, ◌*◌, ◌++◌, drop}
use Rattle.std.specs.List.{flat_map}
use Rattle.arrayvec.specs.ArrayVec.{array_vec_len}
use Rattle.oe_lines.specs.Texts.{item_text}
use Rattle.oe_lines.proofs.requests.items.Given as goal

-- what is still to come completes the text
abbrev pub invariant-loop-line : goal.invariant-loop-line
invariant-loop-line l =
    (l.out.items ++ flat_map item_text (drop l.line-index l.lines) ≡ l.initial.out.items
    ++ flat_map item_text l.lines)
    × (array_vec_len l.out ≤ array_vec_len l.initial.out + 33 * l.line-index)
