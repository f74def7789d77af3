use Rattle.std.proofs.Common.{◌≡◌, ◌+◌, ◌≤◌, List, length, map, vec_capacity, true}
use Rattle.oe_history.specs.declared.views.Entry.{Entry}
use Rattle.oe_hall.specs.Desks.{AreKnown}
use Rattle.oe_drive.specs.Ends.{HaveEnded}
use Rattle.oe_drive.specs.Posts.{station_of}
use Rattle.oe_drive.specs.Stations.{HaveCarriedOut}
use Rattle.oe_drive.proofs.driving.rise.Given as goal

abbrev pub invariant-loop-post : goal.invariant-loop-post
invariant-loop-post g l = (length l.desks.items + length l.posts.items ≡ length l.fn.posts.items + 1)
    × (length l.desks.items + length l.posts.items ≤ vec_capacity l.desks) × HaveEnded l.desks.items
    × (l.is_whole ≡ true → (log : List Entry) → AreKnown log l.desks.items
    → HaveCarriedOut log (map station_of l.posts.items) → HaveCarriedOut log (map station_of l.fn.posts.items))

abbrev pub decreases-loop-post : goal.decreases-loop-post
decreases-loop-post g l = length l.posts.items
