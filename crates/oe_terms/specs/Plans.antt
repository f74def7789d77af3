-- What each terminal of a load asks for: its r-th request is drawn from a generator of its own.
use Rattle.std.specs.Prelude.{ℕ, ◌+◌, ◌*◌, ◌==◌, min, nat_le, Bool, not, ◌||◌, if◌then◌else◌, map}
use Rattle.rand_pcg.specs.Lcg.{Lcg, advance}
use Rattle.rand_pcg.specs.Pcg.{multiplier_64}
use Rattle.oe_rows.specs.declared.scales.Scale.{Scale}
use Rattle.oe_requests.specs.declared.requests.RequestLine.{RequestLine}
use Rattle.oe_requests.specs.declared.requests.NewOrderRequest.{NewOrderRequest}
use Rattle.oe_requests.specs.declared.requests.Request.{Request}
use Rattle.oe_requests.specs.declared.requests.Request.TheVariants as request
use Rattle.oe_requests.specs.declared.requests.Query.TheVariants as query
use Rattle.oe_terms.specs.declared.errands.Kind.{Kind}
use Rattle.oe_terms.specs.declared.errands.Kind.TheVariants as kind
use Rattle.oe_terms.specs.Draws.{random, words_of}
use Rattle.oe_terms.specs.Columns.{home, district_in}
use Rattle.oe_terms.specs.Errands as terms
use Rattle.oe_numbers.specs.declared.forms.Items.{Items}
use Rattle.oe_numbers.specs.declared.forms.Items.TheVariants as items
use Rattle.oe_numbers.specs.declared.kinds.Kinds.{Kinds}
use Rattle.oe_terms.specs.declared.kinds.Shares.{Shares}
use Rattle.oe_terms.specs.declared.plans.Plan.{Plan}
use Rattle.oe_terms.specs.declared.plans.Asked.{Asked}
use Rattle.oe_terms.specs.declared.plans.Asked.TheVariants as asked

-- the generator of a terminal's r-th request: the terminal's, a thousand words further for each
abbrev pub generator_of : ℕ → ℕ → ℕ → Lcg
generator_of seed terminal r = advance 64 multiplier_64 (r * 1_000) (words_of seed terminal)

-- no kind is named, and all are drawn
abbrev pub are_all : Kinds → Bool
are_all k = not (k.new_order || k.payment || k.status || k.delivery || k.level)

-- the share of a kind: what the standard has in a hundred where it is drawn
abbrev pub share : Kinds → Bool → ℕ → ℕ
share k is_named n = if are_all k || is_named then n else 0

-- clause 5.2.3: of a hundred 45 are orders, 43 payments, and 4 of each other kind; each with those before it
abbrev pub shares_to : Kinds → Shares
shares_to k =
    let orders = share k k.new_order 45 in
    let payments = orders + share k k.payment 43 in
    let statuses = payments + share k k.status 4 in
    let deliveries = statuses + share k k.delivery 4 in
    record {
      orders = orders;
      payments = payments;
      statuses = statuses;
      deliveries = deliveries;
      levels = deliveries + share k k.level 4;
    }

-- the kind to whose share a number from 1 on belongs
abbrev pub kind_of : Shares → ℕ → Kind
kind_of s n =
    if nat_le n s.orders then kind.NewOrder
    else if nat_le n s.payments then kind.Payment
    else if nat_le n s.statuses then kind.OrderStatus
    else if nat_le n s.deliveries then kind.Delivery
    else kind.StockLevel

abbrev pub kind_drawn : Kinds → Lcg → Kind × Lcg
kind_drawn k g =
    let n = random 1 (shares_to k).levels g in
    (kind_of (shares_to k) n.0, n.1)

-- an item past the last one gives place to the last: no order is rolled back for an unused item
abbrev pub used_line : Scale → RequestLine → RequestLine
used_line s l = record { supply = l.supply; item = min l.item s.items; quantity = l.quantity }

abbrev pub used_order : Scale → NewOrderRequest → NewOrderRequest
used_order s q =
    record { district = q.district; customer = q.customer; stamp = q.stamp; lines = map (used_line s) q.lines }

-- The order that is asked for: as it was drawn, or with used items alone. Of a hundred that are drawn one has an unused
-- item (clause 2.4.1.4), for which it is rolled back (clause 2.4.2.3).
abbrev pub order_of : Items → Scale → NewOrderRequest → NewOrderRequest
order_of items.Used s q = used_order s q
order_of items.AsDrawn s q = q

-- a delivery of ten districts (clause 2.7.1), or in 1 of 2 of one
abbrev pub delivery_of : Scale → ℕ → ℕ → Lcg → Request
delivery_of s terminal r g =
    let q = terms.delivery s terminal r g in
    let form = random 1 2 q.1 in
    let d = district_in (home s terminal) form.1 in
    if form.0 == 1 then request.Deliveries q.0
    else request.Delivery (record { district = d.0; carrier = q.0.carrier; stamp = q.0.stamp })

abbrev pub asked_of_kind : Kind → Items → Scale → ℕ → ℕ → Lcg → Asked
asked_of_kind kind.NewOrder i s terminal r g =
    asked.Transaction (request.NewOrder (order_of i s (terms.new_order s terminal r g).0))
asked_of_kind kind.Payment i s terminal r g = asked.Transaction (request.Payment (terms.payment s terminal r g).0)
asked_of_kind kind.OrderStatus i s terminal r g = asked.Query (query.Status (terms.order_status s terminal g).0)
asked_of_kind kind.Delivery i s terminal r g = asked.Transaction (delivery_of s terminal r g)
asked_of_kind kind.StockLevel i s terminal r g = asked.Query (query.Level (terms.stock_level s terminal g).0)

-- what the terminal asks for as its r-th, from 1 on
abbrev pub asked_of : Plan → ℕ → ℕ → Asked
asked_of p terminal r =
    let k = kind_drawn p.kinds (generator_of p.numbers.seed terminal r) in
    asked_of_kind k.0 p.items p.numbers.scale terminal r k.1

-- it is one of the standard's: a payment, an order, a delivery, or a query
abbrev pub IsKnown : Asked → Type 0
IsKnown (asked.Transaction (request.Payment q)) = Unit {0}
IsKnown (asked.Transaction (request.NewOrder q)) = Unit {0}
IsKnown (asked.Transaction (request.Delivery q)) = Unit {0}
IsKnown (asked.Transaction (request.Deliveries q)) = Unit {0}
IsKnown (asked.Transaction (request.Rename q)) = ⊥
IsKnown (asked.Query q) = Unit {0}
