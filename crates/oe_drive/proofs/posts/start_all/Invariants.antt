use Rattle.std.proofs.Common.{◌≡◌, ◌+◌, ◌≤◌, List, length, map, vec_capacity}
use Rattle.oe_history.specs.declared.views.Entry.{Entry}
use Rattle.oe_drive.specs.Posts.{station_of}
use Rattle.oe_drive.specs.Stations.{HaveCarriedOut}
use Rattle.oe_drive.proofs.posts.start_all.Given as goal

abbrev pub invariant-loop-station : goal.invariant-loop-station
invariant-loop-station g l = (length l.posts.items + length l.stations.items ≡ length l.fn.stations.items)
    × (length l.fn.stations.items ≤ vec_capacity l.posts)
    × ((log : List Entry) → HaveCarriedOut log (map station_of l.posts.items) → HaveCarriedOut log l.stations.items
    → HaveCarriedOut log l.fn.stations.items)

abbrev pub decreases-loop-station : goal.decreases-loop-station
decreases-loop-station g l = length l.stations.items
