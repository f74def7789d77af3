use Rattle.std.proofs.Common.{◌≡◌, ◌≤◌, ◌+◌, ◌*◌, ◌++◌, drop}
use Rattle.std.specs.List.{flat_map}
use Rattle.arrayvec.specs.ArrayVec.{array_vec_len}
use Rattle.oe_reasons.specs.Shapes.{form_line}
use Rattle.oe_reasons.proofs.shapes.form_lines.Given as goal

-- what is still to come completes the text
abbrev pub invariant-loop-form : goal.invariant-loop-form
invariant-loop-form l =
    (l.out.items ++ flat_map form_line (drop l.form-index l.forms) ≡ l.initial.out.items
    ++ flat_map form_line l.forms)
    × (array_vec_len l.out ≤ array_vec_len l.initial.out + 215 * l.form-index)
