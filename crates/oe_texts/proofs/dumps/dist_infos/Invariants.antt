use Rattle.std.proofs.Common.{◌≡◌, ◌≤◌, ◌+◌, ◌*◌, ◌++◌, drop}
use Rattle.arrayvec.specs.ArrayVec.{array_vec_len}
use Rattle.oe_texts.specs.Column.{with_tabs}
use Rattle.oe_texts.proofs.dumps.dist_infos.Given as goal

-- what is still to come completes the columns
abbrev pub invariant-loop-info : goal.invariant-loop-info
invariant-loop-info l =
    (l.out.items ++ with_tabs (drop l.info-index l.infos) ≡ l.initial.out.items ++ with_tabs l.infos)
    × (array_vec_len l.out ≤ array_vec_len l.initial.out + 25 * l.info-index)
