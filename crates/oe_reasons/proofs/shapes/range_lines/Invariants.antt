use Rattle.std.proofs.Common.{◌≡◌, ◌≤◌, ◌+◌, ◌*◌, ◌++◌, drop}
use Rattle.std.specs.List.{flat_map}
use Rattle.arrayvec.specs.ArrayVec.{array_vec_len}
use Rattle.oe_reasons.specs.Shapes.{range_line}
use Rattle.oe_reasons.proofs.shapes.range_lines.Given as goal

-- what is still to come completes the text
abbrev pub invariant-loop-column : goal.invariant-loop-column
invariant-loop-column l =
    (l.out.items ++ flat_map range_line (drop l.column-index l.columns) ≡ l.initial.out.items
    ++ flat_map range_line l.columns)
    × (array_vec_len l.out ≤ array_vec_len l.initial.out + 120 * l.column-index)
