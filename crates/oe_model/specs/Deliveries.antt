-- Delivery of all ten districts of a warehouse as one transaction (clause 2.7): its whole effect, and where its program
-- goes on. A stage of it is one of the district at hand.
use Rattle.std.specs.Prelude.{ℕ, ◌+◌, ◌==◌, cond, List, [], ◌∷◌, ◌++◌, length, Option, Some}
use Rattle.oe_requests.specs.declared.requests.DeliveryRequest.{DeliveryRequest}
use Rattle.oe_requests.specs.declared.requests.DeliveriesRequest.{DeliveriesRequest}
use Rattle.oe_requests.specs.declared.replies.DistrictDelivery.{DistrictDelivery}
use Rattle.oe_requests.specs.declared.replies.Reply.{Reply}
use Rattle.oe_requests.specs.declared.replies.Reply.TheVariants as reply
use Rattle.oe_model.specs.Rows.{Rows}
use Rattle.oe_model.specs.Positions.{Position, DeliveryQueue, InDeliveries, DeliveriesEnd}
use Rattle.oe_model.specs.Effects.{◌>>=◌}
use Rattle.oe_model.specs.Delivery.{Setting, district_effect}

-- the districts of a warehouse, in the order in which they are delivered; shut, so that no proof goes through them one
-- by one
unfoldable pub districts : List ℕ
districts = 1 ∷ 2 ∷ 3 ∷ 4 ∷ 5 ∷ 6 ∷ 7 ∷ 8 ∷ 9 ∷ 10 ∷ []

-- what is asked of one district
abbrev pub in_district : DeliveriesRequest → ℕ → DeliveryRequest
in_district q d = record {
  district = record { warehouse = q.warehouse.warehouse; district = d };
  carrier = q.carrier;
  stamp = q.stamp;
}

-- the effects of these districts one after another, none where one has none, with what each district answers
abbrev pub in_turn : DeliveriesRequest → List ℕ → Rows → Option (Rows × List DistrictDelivery)
in_turn q [] r = Some (r, [])
in_turn q (d ∷ ds) r = do
  one ← district_effect (in_district q d) r
  rest ← in_turn q ds one.0
  Some (rest.0, one.1 ∷ rest.1)

-- the whole effect
abbrev pub deliveries_effect : DeliveriesRequest → Rows → Option (Rows × Reply)
deliveries_effect q r = in_turn q districts r >>= λ e. Some (e.0, reply.Deliveries e.1)

-- the district at hand is the one after those that are done
abbrev pub at_hand : DeliveriesRequest → List DistrictDelivery → DeliveryRequest
at_hand q done = in_district q (length done + 1)

-- once these are done the next district begins, and after the tenth none
abbrev pub after_done : DeliveriesRequest → List DistrictDelivery → Position
after_done q done = cond (length done == 10) (DeliveriesEnd done) (InDeliveries q done DeliveryQueue)

-- a transaction of all ten districts, once these are done
abbrev pub among_ten : DeliveriesRequest → List DistrictDelivery → Setting
among_ten q done = record {
  here = InDeliveries q done;
  next = λ d. after_done q (done ++ d ∷ []);
  answer = λ d. reply.Deliveries (done ++ d ∷ []);
}
