-- Where a delivery of ten districts stands.
use Rattle.std.specs.Prelude.{◌==◌, cond, List, length, Option, None, Some}
use Rattle.oe_requests.specs.declared.requests.DeliveryRequest.{DeliveryRequest}
use Rattle.oe_requests.specs.declared.requests.DeliveriesRequest.{DeliveriesRequest}
use Rattle.oe_requests.specs.declared.requests.Request.TheVariants as request
use Rattle.oe_requests.specs.declared.replies.DistrictDelivery.{DistrictDelivery}
use Rattle.oe_model.specs.Positions.{Position, DeliveryPosition, InDeliveries, DeliveriesEnd}
use Rattle.oe_model.specs.Deliveries.{at_hand}
use Rattle.oe_model.specs.System.{locks_before}
use Rattle.oe_engine.specs.View.{EngineState, view_of, Handle}
use Rattle.oe_engine.specs.Stages.{HoldsAll}
use Rattle.oe_engine.specs.Programs.{tx_of}

-- what was done in each district that is done, and the position of the district at hand, which counts while one is left
pub record Course : Type 0 where
  pub done : List DistrictDelivery
  pub district : DeliveryPosition

-- the position of the model
abbrev pub place_of : DeliveriesRequest → Course → Position
place_of q c = cond (length c.done == 10) (DeliveriesEnd c.done) (InDeliveries q c.done c.district)

-- what is asked of the district at hand; none where each is done
abbrev pub next_district : DeliveriesRequest → Course → Option DeliveryRequest
next_district q c = cond (length c.done == 10) None (Some (at_hand q c.done))

-- the names that are taken on the way to this position are held
abbrev pub HoldsNames : DeliveriesRequest → Handle → EngineState → Course → Type 0
HoldsNames q x s c = HoldsAll (view_of s) x.terminal (locks_before (tx_of s x (request.Deliveries q)) (place_of q c))
