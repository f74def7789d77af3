use Rattle.std.proofs.Common.{◌≡◌, ◌≤◌, ◌+◌, ◌*◌, ◌++◌, drop}
use Rattle.arrayvec.specs.ArrayVec.{array_vec_len}
use Rattle.oe_texts.specs.Reply.{districts_text}
use Rattle.oe_texts.proofs.replies.districts.Given as goal

-- what is still to come completes the text
abbrev pub invariant-loop-delivery : goal.invariant-loop-delivery
invariant-loop-delivery l =
    (l.out.items ++ districts_text l.number (drop l.delivery-index l.deliveries) ≡ l.initial.out.items
    ++ districts_text 1 l.deliveries)
    × (array_vec_len l.out ≤ array_vec_len l.initial.out + 57 * l.delivery-index)
    × (l.number ≡ l.delivery-index + 1)
