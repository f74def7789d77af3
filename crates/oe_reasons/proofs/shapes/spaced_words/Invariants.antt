use Rattle.std.proofs.Common.{◌≡◌, ◌≤◌, ◌+◌, ◌*◌, ◌++◌, drop}
use Rattle.std.specs.List.{flat_map}
use Rattle.arrayvec.specs.ArrayVec.{array_vec_len}
use Rattle.oe_reasons.specs.Shapes.{spaced_word}
use Rattle.oe_reasons.proofs.shapes.spaced_words.Given as goal

-- what is still to come completes the text
abbrev pub invariant-loop-column : goal.invariant-loop-column
invariant-loop-column l =
    (l.out.items ++ flat_map spaced_word (drop l.column-index l.columns) ≡ l.initial.out.items
    ++ flat_map spaced_word l.columns)
    × (array_vec_len l.out ≤ array_vec_len l.initial.out + 21 * l.column-index)
