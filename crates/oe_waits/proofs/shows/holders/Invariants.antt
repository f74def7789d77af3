use Rattle.std.proofs.Common.{◌≡◌, ◌≤◌, ◌+◌, ◌*◌, ◌++◌, [], cond}
use Rattle.arrayvec.specs.ArrayVec.{array_vec_len}
use Rattle.oe_waits.specs.Waits.{waits_for}
use Rattle.oe_waits.specs.Texts.{terminal_text, texts_to}
use Rattle.oe_waits.proofs.shows.holders.Given as goal

-- those so far are appended, each in at most eleven bytes
abbrev pub invariant-loop-before : goal.invariant-loop-before
invariant-loop-before g l =
    (l.out.items ≡ l.initial.out.items
    ++ texts_to (λ u. cond (waits_for (g.M.Machine.world l.core) l.waiting u) (terminal_text u) []) l.before)
    × (array_vec_len l.out ≤ array_vec_len l.initial.out + 11 * l.before)
