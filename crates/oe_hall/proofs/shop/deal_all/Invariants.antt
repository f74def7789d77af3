use Rattle.std.proofs.Common.{◌≡◌, ◌≤◌, suc, length, vec_capacity}
use Rattle.oe_hall.specs.Seats.{AreFresh, waiting}
use Rattle.oe_hall.proofs.shop.deal_all.Given as goal

abbrev pub invariant-loop-k : goal.invariant-loop-k
invariant-loop-k l = (length l.places.items ≡ l._k) × (waiting l.places.items ≡ l._k)
    × AreFresh (record { words = l.moments; history = l.fn.history.table; name = l.fn.dealer.shop }) l.places.items
    × (64 ≤ vec_capacity l.places) × (l.dealer.words ≡ l.moments) × (l.dealer.notes.dealt ≡ l._k)
    × (l.dealer.shop ≡ l.fn.dealer.shop)
    × (l.history ≡ record { table = l.fn.history.table; log = l.fn.history.log; dealt = suc l._k })
