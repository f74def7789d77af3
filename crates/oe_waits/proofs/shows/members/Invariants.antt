use Rattle.std.proofs.Common.{◌≡◌, ◌≤◌, ◌+◌, ◌*◌, ◌++◌, [], cond}
use Rattle.std.specs.Prelude.{◌&&◌}
use Rattle.arrayvec.specs.ArrayVec.{array_vec_len}
use Rattle.oe_waits.specs.Reaching.{is_in}
use Rattle.oe_waits.specs.Texts.{terminal_text, texts_to}
use Rattle.oe_waits.proofs.shows.members.Given as goal

-- those so far that are in both are appended, each in at most eleven bytes
abbrev pub invariant-loop-before : goal.invariant-loop-before
invariant-loop-before l =
    (l.out.items ≡ l.initial.out.items
    ++ texts_to (λ u. cond (is_in l.fn.ahead u && is_in l.fn.back u) (terminal_text u) []) l.before)
    × (array_vec_len l.out ≤ array_vec_len l.initial.out + 11 * l.before)
