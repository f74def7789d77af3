use Rattle.std.proofs.Common.{length}
use Rattle.oe_hall.proofs.shop.+look_at_places.Given as goal

abbrev pub decreases-look_at_places : goal.decreases-look_at_places
decreases-look_at_places g l = length l.places.now
