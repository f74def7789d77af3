-- What a terminal sends as its r-th: a function of its generator.
use Rattle.std.specs.Prelude.{ℕ, zero, suc, ◌+◌, ◌-◌, ◌%◌, ◌==◌, Bool, false, if◌then◌else◌, List, [], ◌∷◌, ◌++◌}
use Rattle.rand_pcg.specs.Lcg.{Lcg}
use Rattle.oe_rows.specs.declared.scales.Scale.{Scale}
use Rattle.oe_requests.specs.declared.requests.RequestLine.{RequestLine}
use Rattle.oe_requests.specs.declared.requests.NewOrderRequest.{NewOrderRequest}
use Rattle.oe_requests.specs.declared.requests.PaymentRequest.{PaymentRequest}
use Rattle.oe_requests.specs.declared.requests.DeliveriesRequest.{DeliveriesRequest}
use Rattle.oe_requests.specs.declared.requests.StatusQuery.{StatusQuery}
use Rattle.oe_requests.specs.declared.requests.LevelQuery.{LevelQuery}
use Rattle.oe_requests.specs.declared.requests.Request.TheVariants as request
use Rattle.oe_requests.specs.declared.requests.Query.TheVariants as query
use Rattle.oe_requests.specs.declared.requests.Errand.{Errand}
use Rattle.oe_requests.specs.declared.requests.Errand.TheVariants.{Begin, Read, Deliver}
use Rattle.oe_terms.specs.declared.errands.Kind.{Kind}
use Rattle.oe_terms.specs.declared.errands.Kind.TheVariants as kind
use Rattle.oe_terms.specs.Draws.{random, words_of}
use Rattle.oe_terms.specs.Columns.{home, own_district, other, stamp_of, district_in, customer_number, item_number}
use Rattle.oe_terms.specs.Columns.{choice, residence}

-- a line: in 1 of 100 the other warehouse supplies it; an item past the last one is unused (clause 2.4.1.5)
abbrev pub line : Scale → ℕ → Bool → Lcg → RequestLine × Lcg
line s warehouse is_unused g =
    let i = item_number s.items g in
    let x = random 1 100 i.1 in
    let q = random 1 10 x.1 in (
      record {
        supply = if x.0 == 1 then other s warehouse else warehouse;
        item = if is_unused then s.items + 1 else i.0;
        quantity = q.0;
      },
      q.1,
    )

-- as many lines as asked for, each of an item that is there
abbrev pub used_lines : Scale → ℕ → ℕ → Lcg → List RequestLine × Lcg
used_lines s warehouse zero g = ([], g)
used_lines s warehouse (suc n) g =
    let before = used_lines s warehouse n g in
    let next = line s warehouse false before.1 in
    (before.0 ++ next.0 ∷ [], next.1)

-- `count` lines; the last one's item may be unused (clause 2.4.1.5)
abbrev pub lines : Scale → ℕ → Bool → ℕ → Lcg → List RequestLine × Lcg
lines s warehouse is_unused count g =
    let before = used_lines s warehouse (count - 1) g in
    let last = line s warehouse is_unused before.1 in
    (before.0 ++ last.0 ∷ [], last.1)

-- clause 2.4.1: in 1 of 100 the last item is unused
abbrev pub new_order : Scale → ℕ → ℕ → Lcg → NewOrderRequest × Lcg
new_order s terminal r g =
    let rbk = random 1 100 g in
    let d = district_in (home s terminal) rbk.1 in
    let c = customer_number s.customers d.1 in
    let count = random 5 15 c.1 in
    let ls = lines s (home s terminal) (rbk.0 == 1) count.0 count.1 in
    (record { district = d.0; customer = c.0; stamp = stamp_of r; lines = ls.0 }, ls.1)

-- clause 2.5.1: the amount is 1.00 to 5,000.00
abbrev pub payment : Scale → ℕ → ℕ → Lcg → PaymentRequest × Lcg
payment s terminal r g =
    let d = district_in (home s terminal) g in
    let at = residence s d.0 d.1 in
    let c = choice s.customers at.1 in
    let amount = random 100 500_000 c.1 in (
      record { district = d.0; customer_district = at.0; customer = c.0; amount = amount.0; stamp = stamp_of r },
      amount.1,
    )

-- clause 2.6.1
abbrev pub order_status : Scale → ℕ → Lcg → StatusQuery × Lcg
order_status s terminal g =
    let d = district_in (home s terminal) g in
    let c = choice s.customers d.1 in
    (record { district = d.0; customer = c.0 }, c.1)

-- clause 2.7.1
abbrev pub delivery : Scale → ℕ → ℕ → Lcg → DeliveriesRequest × Lcg
delivery s terminal r g =
    let carrier = random 1 10 g in
    (record { warehouse = record { warehouse = home s terminal }; carrier = carrier.0; stamp = stamp_of r }, carrier.1)

-- clause 2.8.1
abbrev pub stock_level : Scale → ℕ → Lcg → LevelQuery × Lcg
stock_level s terminal g =
    let threshold = random 10 20 g in
    (record { district = own_district s terminal; threshold = threshold.0 }, threshold.1)

-- the kinds come in turn, in place of the mix of clause 5.2.3
abbrev pub kind_of : ℕ → Kind
kind_of r =
    if r % 5 == 1 then kind.NewOrder
    else if r % 5 == 2 then kind.Payment
    else if r % 5 == 3 then kind.OrderStatus
    else if r % 5 == 4 then kind.Delivery
    else kind.StockLevel

abbrev pub errand_of_kind : Kind → Scale → ℕ → ℕ → Lcg → Errand × Lcg
errand_of_kind kind.NewOrder s terminal r g = let q = new_order s terminal r g in (Begin (request.NewOrder q.0), q.1)
errand_of_kind kind.Payment s terminal r g = let q = payment s terminal r g in (Begin (request.Payment q.0), q.1)
errand_of_kind kind.OrderStatus s terminal r g = let q = order_status s terminal g in (Read (query.Status q.0), q.1)
errand_of_kind kind.Delivery s terminal r g = let q = delivery s terminal r g in (Deliver q.0, q.1)
errand_of_kind kind.StockLevel s terminal r g = let q = stock_level s terminal g in (Read (query.Level q.0), q.1)

-- the r-th errand of a terminal, and the generator after it
abbrev pub errand_of : Scale → ℕ → ℕ → Lcg → Errand × Lcg
errand_of s terminal r g = errand_of_kind (kind_of r) s terminal r g

-- the generator after this number of errands
abbrev pub words_after : Scale → ℕ → ℕ → ℕ → Lcg
words_after s seed terminal zero = words_of seed terminal
words_after s seed terminal (suc r) = (errand_of s terminal (suc r) (words_after s seed terminal r)).1

-- what the terminal sends as its r-th, from 1 on
abbrev pub request_of : Scale → ℕ → ℕ → ℕ → Errand
request_of s seed terminal r = (errand_of s terminal r (words_after s seed terminal (r - 1))).0
