-- The ranges of errands: what a begin asks of a request, and which rows of a population they are of.
use Rattle.std.specs.Prelude.{◌≡◌, ℕ, ◌+◌, ◌-◌, ◌%◌}
use Rattle.std.specs.List.{All}
use Rattle.std.specs.Int.{IsInRange}
use Rattle.oe_rows.specs.declared.scales.Scale.{Scale}
use Rattle.oe_rows.specs.declared.keys.DistrictKey.{DistrictKey}
use Rattle.oe_requests.specs.declared.requests.CustomerChoice.{CustomerChoice}
use Rattle.oe_requests.specs.declared.requests.CustomerChoice.TheVariants.{Number, LastName}
use Rattle.oe_requests.specs.declared.requests.RequestLine.{RequestLine}
use Rattle.oe_requests.specs.declared.requests.Request.{Request}
use Rattle.oe_requests.specs.declared.requests.Request.TheVariants as request
use Rattle.oe_requests.specs.declared.requests.Query.{Query}
use Rattle.oe_requests.specs.declared.requests.Query.TheVariants as query
use Rattle.oe_requests.specs.declared.requests.Errand.{Errand}
use Rattle.oe_requests.specs.declared.requests.Errand.TheVariants.{Begin, Read, Deliver}
use Rattle.oe_model.specs.Population.{last_name}
use Rattle.oe_model.specs.Requests.{IsRequest, IsStamp}

-- the district is one of the scale's
abbrev pub HasDistrict : Scale → DistrictKey → Type 0
HasDistrict s k = IsInRange 1 s.warehouses k.warehouse × IsInRange 1 10 k.district

-- some customer of each district has the number, or the last name
abbrev pub HasCustomer : Scale → CustomerChoice → Type 0
HasCustomer s (Number c) = IsInRange 1 s.customers c
HasCustomer s (LastName last) = (c : ℕ) × IsInRange 1 s.customers c × (last ≡ last_name ((c - 1) % 1_000))

-- the supplying warehouse is there, and so is the item, or it is the one after the last
abbrev pub HasLine : Scale → RequestLine → Type 0
HasLine s l = IsInRange 1 s.warehouses l.supply × IsInRange 1 (s.items + 1) l.item

abbrev pub IsRequestOf : Scale → Request → Type 0
IsRequestOf s (request.NewOrder q) = HasDistrict s q.district × IsInRange 1 s.customers q.customer
    × All (HasLine s) q.lines
IsRequestOf s (request.Payment q) = HasDistrict s q.district × HasDistrict s q.customer_district
    × HasCustomer s q.customer
IsRequestOf s (request.Delivery q) = ⊥
IsRequestOf s (request.Deliveries q) = ⊥
IsRequestOf s (request.Rename q) = ⊥

abbrev pub IsQueryOf : Scale → Query → Type 0
IsQueryOf s (query.Status q) = HasDistrict s q.district × HasCustomer s q.customer
IsQueryOf s (query.Level q) = HasDistrict s q.district × IsInRange 10 20 q.threshold

-- a request that may be begun, a query, or a delivery, of rows that a population of the scale has
abbrev pub IsErrandOf : Scale → Errand → Type 0
IsErrandOf s (Begin q) = IsRequest q × IsRequestOf s q
IsErrandOf s (Read q) = IsQueryOf s q
IsErrandOf s (Deliver q) = IsInRange 1 s.warehouses q.warehouse.warehouse × IsInRange 1 10 q.carrier × IsStamp q.stamp
