use Rattle.std.proofs.Common.{◌≡◌, ◌+◌, ◌≤◌, List, length, map, vec_len, vec_capacity}
use Rattle.oe_history.specs.declared.views.Entry.{Entry}
use Rattle.oe_drive.specs.Ends.{AreFree}
use Rattle.oe_drive.specs.Plans.{errands_in, ArePlansCarriedOut}
use Rattle.oe_drive.specs.Stations.{HaveCarriedOut}
use Rattle.oe_drive.proofs.driving.sit_down.Given as goal

abbrev pub invariant-loop-sender : goal.invariant-loop-sender
invariant-loop-sender g l = (length l.stations.items + vec_len l.senders ≡ vec_len l.fn.plans)
    × (vec_len l.fn.plans ≤ vec_capacity l.stations) × (vec_len l.plans ≡ vec_len l.senders) × (vec_len l.fn.plans ≤ 63)
    × AreFree l.shop.seats (vec_len l.senders)
    × (l.shop.given + vec_len l.senders ≡ l.fn.shop.given + vec_len l.fn.plans)
    × ((log : List Entry) → HaveCarriedOut log l.stations.items
    → ArePlansCarriedOut log (map errands_in l.plans.items) → ArePlansCarriedOut log (map errands_in l.fn.plans.items))

abbrev pub decreases-loop-sender : goal.decreases-loop-sender
decreases-loop-sender g l = vec_len l.senders
