use Rattle.std.proofs.Common.{◌≤◌, ◌+◌, ◌*◌, option_map}
use Rattle.arrayvec.specs.ArrayVec.{array_vec_len}
use Rattle.oe_busy.specs.Happenings.{count_in}
use Rattle.oe_busy.proofs.FirstFacts.{Shows}
use Rattle.oe_busy.proofs.firsts.some_lines.Given as goal

-- the lines of so many names are there
abbrev pub invariant-loop-shown : goal.invariant-loop-shown
invariant-loop-shown l =
    Shows (count_in l.counts) l.fn.most l.initial.out.items l.out.items (option_map (λ n. n.now) l.last) l.shown
    × (array_vec_len l.out ≤ array_vec_len l.initial.out + 72 * l.shown)
