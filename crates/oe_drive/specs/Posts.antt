-- Which station a post has.
use Rattle.oe_drive.specs.declared.posts.Post.{Post}
use Rattle.oe_drive.specs.declared.posts.Post.TheVariants as post
use Rattle.oe_drive.specs.Stations.{TheStation}

-- one that stands here; or the one that a thread took, as it was then
abbrev pub station_of : {J : Type 0} → Post J → TheStation
station_of (post.Here s) = s
station_of (post.There h) = h.promise.0.value
