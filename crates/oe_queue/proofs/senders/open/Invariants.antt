use Rattle.std.proofs.Common.{◌≡◌, ℕ, ◌+◌, vec_len, [], Some, slice_get}
use Rattle.crossbeam_channel.specs.Claims.{view as known, IsSeatAt}
use Rattle.crossbeam_channel.specs.Ends.{sends_on}
use Rattle.oe_queue.specs.Ends.{TheSender, hand_of, new_sender}
use Rattle.oe_queue.specs.declared.rules.Knowledge.TheVariants.{Taking}
use Rattle.oe_queue.proofs.senders.open.Given as goal

abbrev pub invariant-loop-number : goal.invariant-loop-number
invariant-loop-number l = IsSeatAt (sends_on l.end) l.pass × (known l.pass ≡ Taking (hand_of (known l.pass)))
    × ((hand_of (known l.pass)).senders ≡ l.number) × ((hand_of (known l.pass)).messages ≡ [])
    × ((hand_of (known l.pass)).told ≡ [])
    × (vec_len l.senders ≡ l.number)
    × ((k : ℕ) (s : TheSender) → slice_get l.senders.items k ≡ Some s
    → s ≡ new_sender (record { table = l.pass.table_id; key = l.pass.me.0.of }) (k + 1))
