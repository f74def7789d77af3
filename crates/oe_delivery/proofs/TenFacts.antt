-- A stage of the district at hand is a stage of the delivery of ten districts.
use Rattle.std.proofs.Common.{◌≡◌, ℕ, ◌+◌, refl, sym, ap, ◌∙◌, subst, inl, inr, Bool, true, false, cond, List, [], ◌∷◌}
use Rattle.std.proofs.Common.{◌++◌, length, map, Option, None, Some}
use Rattle.std.specs.Prelude.{◌==◌, ◌⊎◌}
use Rattle.std.specs.FinMap.{get}
use Rattle.oe_theory.specs.Machine.{Fail, Go, Ready}
use Rattle.oe_theory.specs.Next.{GivesWay}
use Rattle.oe_rows.specs.declared.keys.Key.TheVariants as key
use Rattle.oe_requests.specs.declared.requests.DeliveryRequest.{DeliveryRequest}
use Rattle.oe_requests.specs.declared.requests.DeliveriesRequest.{DeliveriesRequest}
use Rattle.oe_requests.specs.declared.requests.Request.TheVariants as request
use Rattle.oe_requests.specs.declared.replies.Reply.{Reply}
use Rattle.oe_requests.specs.declared.replies.Reply.TheVariants as reply
use Rattle.oe_requests.specs.declared.replies.DistrictDelivery.{DistrictDelivery}
use Rattle.oe_requests.specs.declared.replies.DistrictDelivery.TheVariants.{Skipped}
use Rattle.oe_requests.specs.declared.refusals.Column.{Column}
use Rattle.oe_requests.specs.declared.refusals.Refusal.{Refusal}
use Rattle.oe_requests.specs.declared.refusals.Refusal.TheVariants.{NoSuchRow, RowExists, Overflow, Reference}
use Rattle.oe_requests.specs.declared.refusals.Refusal.TheVariants.{KeyColumn, Busy, UndoFull, NoMemory, NotOpen}
use Rattle.oe_requests.specs.declared.refusals.Refusal.TheVariants.{AlreadyOpen, InvalidItem, NoCustomer, TooOld}
use Rattle.oe_requests.specs.declared.refusals.Refusal.TheVariants.{Future, NotQuiet, NotPinned}
use Rattle.oe_model.specs.Rows.{Rows}
use Rattle.oe_model.specs.Keys.{customer_in, order_in, new_order_in, line_in}
use Rattle.oe_model.specs.Changes.{Change, DeleteNewOrder, UpdateOrder, UpdateOrderLine, UpdateCustomer}
use Rattle.oe_model.specs.Effects.{Doing, with_value, within}
use Rattle.oe_model.specs.Positions.{Position, DeliveryPosition, DeliveryQueue, DeliveryNothing, DeliveryOrder}
use Rattle.oe_model.specs.Positions.{DeliveryLine, DeliveryEnd, InDelivery, InDeliveries, DeliveriesEnd}
use Rattle.oe_model.specs.Delivery.{Setting, alone, district_act, oldest, lines_of, with_carrier, with_date}
use Rattle.oe_model.specs.Delivery.{delivered_to}
use Rattle.oe_model.specs.Delivery.{delivered_out}
use Rattle.oe_model.specs.Deliveries.{at_hand, after_done, among_ten}
use Rattle.oe_model.specs.System.{system, yields}
use Rattle.oe_engine.specs.View.{EngineState, Handle}
use Rattle.oe_engine.specs.Programs.{district_reply, GoesOn, Ends, IsFullHere, WantsMemory, IsStageRefusal, IsReady}
use Rattle.oe_engine.specs.View.{IsOpen}
use Rattle.oe_delivery.specs.Deliveries.{Course, place_of, next_district}

-- the position of a setting that stands for a position of the district: at the district's end, what follows it
abbrev pub onward : Setting → DeliveryPosition → Position
onward t p = elim (district_reply p) [ None ↦ t.here p | Some d ↦ t.next d ]

-- two stages that do the same, whatever they go on to and answer
abbrev Same : Doing → Doing → Type 0
Same (Fail e) (Fail f) = e ≡ f
Same (Go c p) (Go d z) = c ≡ d
Same (Ready y) (Ready z) = Unit {0}
Same _ _ = ⊥

given_same : {A : Type 0} (e : Refusal) (o : Option A) (f g : A → Doing) → ((a : A) → Same (f a) (g a))
    → Same (with_value e o f) (with_value e o g)
given_same e None f g h = refl
given_same e (Some a) f g h = h a

within_same : (o : Option Column) (a b : Doing) → Same a b → Same (within o a) (within o b)
within_same None a b h = h
within_same (Some c) a b h = refl

same_fail : (a b : Doing) (e : Refusal) → Same a b → a ≡ Fail e → b ≡ Fail e
same_fail (Fail f) (Fail g) e s h = let one : f ≡ e = cc in ap Fail (sym s ∙ one)
same_fail (Fail f) (Go c p) e s h = absurd s
same_fail (Fail f) (Ready y) e s h = absurd s
same_fail (Go c p) b e s h = let no : ⊥ = cc in absurd no
same_fail (Ready y) b e s h = let no : ⊥ = cc in absurd no

same_go : (a b : Doing) (c : Option Change) (p : Position) → Same a b → a ≡ Go c p → (z : Position) × (b ≡ Go c z)
same_go (Go d p') (Go f z) c p s h = let one : d ≡ c = cc in (z, ap (λ (v : Option Change). Go v z) (sym s ∙ one))
same_go (Go d p') (Fail f) c p s h = absurd s
same_go (Go d p') (Ready y) c p s h = absurd s
same_go (Fail f) b c p s h = let no : ⊥ = cc in absurd no
same_go (Ready y) b c p s h = let no : ⊥ = cc in absurd no

gives_way : (f : Refusal → Bool) (a b : Doing) → Same a b → GivesWay system f a → GivesWay system f b
gives_way f (Fail e) (Fail g) s h = subst (λ (v : Refusal). f v ≡ true) s h
gives_way f (Fail e) (Go c p) s h = absurd s
gives_way f (Fail e) (Ready y) s h = absurd s
gives_way f (Go c p) (Go d z) s h = tt
gives_way f (Go c p) (Fail e) s h = absurd s
gives_way f (Go c p) (Ready y) s h = absurd s
gives_way f (Ready y) b s h = absurd h

module _ (t : Setting) (q : DeliveryRequest) where
  -- in each setting a district does the same
  acts_same : (p : DeliveryPosition) (r : Rows) → Same (district_act (alone q) q p r) (district_act t q p r)
  acts_same DeliveryQueue r = by_oldest (oldest q.district r.new_orders)
    where
      by_oldest : (v : Option ℕ)
          → Same (elim v [
            | None ↦ Go None ((alone q).next Skipped)
            | Some o ↦ Go
                (Some (DeleteNewOrder (new_order_in q.district o))) ((alone q).here (DeliveryOrder o))
          ])
          (elim v [
            | None ↦ Go None (t.next Skipped)
            | Some o ↦ Go (Some (DeleteNewOrder (new_order_in q.district o)))
                (t.here (DeliveryOrder o))
          ])
      by_oldest None = refl
      by_oldest (Some o) = refl
  acts_same DeliveryNothing r = tt
  acts_same (DeliveryOrder o) r = given_same (NoSuchRow (key.Order (order_in q.district o)))
      (get r.orders (order_in q.district o)) _ _ (λ x. refl)
  acts_same (DeliveryLine o c (n ∷ ns) sum) r =
      given_same (NoSuchRow (key.OrderLine (line_in (order_in q.district o) n)))
      (get r.order_lines (line_in (order_in q.district o) n)) _ _ (λ x. refl)
  acts_same (DeliveryLine o c [] sum) r =
      given_same (NoSuchRow (key.Customer (customer_in q.district c))) (get r.customers (customer_in q.district c)) _ _
      (λ x. within_same (delivered_out (delivered_to sum x)) _ _ refl)
  acts_same (DeliveryEnd o c sum) r = tt

  -- and goes on to what stands for where it went alone
  goes_to : (c d : Option Change) (z p' : DeliveryPosition)
      → ◌≡◌ {A = Doing} (Go d (InDelivery q z)) (Go c (InDelivery q p'))
      → ◌≡◌ {A = Doing} (Go d (onward t z)) (Go c (onward t p'))
  goes_to c d z p' h =
      let one : d ≡ c = cc in
      let two : z ≡ p' = cc in
      λ i. Go (one i) (onward t (two i))

  given_on : {A : Type 0} (e : Refusal) (o : Option A) (f g : A → Doing) (c : Option Change) (p' : DeliveryPosition)
      → ((a : A) → f a ≡ Go c (InDelivery q p') → g a ≡ Go c (onward t p'))
      → with_value e o f ≡ Go c (InDelivery q p') → with_value e o g ≡ Go c (onward t p')
  given_on e None f g c p' k h = let no : ⊥ = cc in absurd no
  given_on e (Some a) f g c p' k h = k a h

  within_on : (o : Option Column) (a b : Doing) (c : Option Change) (p' : DeliveryPosition)
      → (a ≡ Go c (InDelivery q p') → b ≡ Go c (onward t p')) → within o a ≡ Go c (InDelivery q p')
      → within o b ≡ Go c (onward t p')
  within_on None a b c p' k h = k h
  within_on (Some n) a b c p' k h = let no : ⊥ = cc in absurd no

  pub acts_on : (p : DeliveryPosition) (r : Rows) (c : Option Change) (p' : DeliveryPosition)
      → district_act (alone q) q p r ≡ Go c (InDelivery q p') → district_act t q p r ≡ Go c (onward t p')
  acts_on DeliveryQueue r c p' h = by_oldest (oldest q.district r.new_orders) h
    where
      by_oldest : (v : Option ℕ)
          → ◌≡◌ {A = Doing} (elim v [
            | None ↦ Go None ((alone q).next Skipped)
            | Some o ↦ Go (Some (DeleteNewOrder (new_order_in q.district o))) ((alone q).here (DeliveryOrder o))
          ]) (Go c
          (InDelivery q p'))
          → ◌≡◌ {A = Doing} (elim v [
            | None ↦ Go None (t.next Skipped)
            | Some o ↦ Go (Some (DeleteNewOrder (new_order_in q.district o)))
                (t.here (DeliveryOrder o))
          ]) (Go c (onward t p'))
      by_oldest None h = goes_to c None DeliveryNothing p' h
      by_oldest (Some o) h = goes_to c (Some (DeleteNewOrder (new_order_in q.district o))) (DeliveryOrder o) p' h
  acts_on DeliveryNothing r c p' h = let no : ⊥ = cc in absurd no
  acts_on (DeliveryOrder o) r c p' h =
      given_on (NoSuchRow (key.Order (order_in q.district o))) (get r.orders (order_in q.district o)) _ _ c p' (λ x e.
      goes_to c (Some (UpdateOrder (order_in q.district o) (with_carrier q.carrier x)))
      (DeliveryLine o x.customer (map (λ e. e.0.number) (lines_of (order_in q.district o) r.order_lines)) 0) p' e) h
  acts_on (DeliveryLine o b (n ∷ ns) sum) r c p' h =
      given_on (NoSuchRow (key.OrderLine (line_in (order_in q.district o) n)))
      (get r.order_lines (line_in (order_in q.district o) n)) _ _ c p' (λ x e.
      goes_to c (Some (UpdateOrderLine (line_in (order_in q.district o) n) (with_date q.stamp x)))
      (DeliveryLine o b ns (sum + x.amount)) p' e) h
  acts_on (DeliveryLine o b [] sum) r c p' h =
      given_on (NoSuchRow (key.Customer (customer_in q.district b))) (get r.customers (customer_in q.district b)) _ _ c
      p' (λ x.
      within_on (delivered_out (delivered_to sum x)) _ _ c p' (λ e.
      goes_to c (Some (UpdateCustomer (customer_in q.district b) (delivered_to sum x))) (DeliveryEnd o b sum) p' e)) h
  acts_on (DeliveryEnd o b sum) r c p' h = let no : ⊥ = cc in absurd no

-- no program of a delivery gives way but at a column
yields_same : (q : DeliveryRequest) (ten : DeliveriesRequest) (done : List DistrictDelivery) (p : DeliveryPosition)
    (e : Refusal) → yields (InDelivery q p) e ≡ yields (InDeliveries ten done p) e
yields_same q ten done p (NoSuchRow k) = refl
yields_same q ten done p (RowExists k) = refl
yields_same q ten done p (Overflow c) = refl
yields_same q ten done p (Reference k) = refl
yields_same q ten done p KeyColumn = refl
yields_same q ten done p (Busy n u) = refl
yields_same q ten done p UndoFull = refl
yields_same q ten done p NoMemory = refl
yields_same q ten done p NotOpen = refl
yields_same q ten done p AlreadyOpen = refl
yields_same q ten done p InvalidItem = refl
yields_same q ten done p NoCustomer = refl
yields_same q ten done p (TooOld m) = refl
yields_same q ten done p (Future m) = refl
yields_same q ten done p (NotQuiet n) = refl
yields_same q ten done p (NotPinned n) = refl

gives_way_same : (f g : Refusal → Bool) → ((e : Refusal) → f e ≡ g e) → (a : Doing) → GivesWay system f a
    → GivesWay system g a
gives_way_same f g same (Fail e) h = sym (same e) ∙ h
gives_way_same f g same (Go c p) h = h
gives_way_same f g same (Ready y) h = h

module _ (s : EngineState) (x : Handle) (ten : DeliveriesRequest) (done : List DistrictDelivery)
    (p : DeliveryPosition) where
  abbrev q : DeliveryRequest
  q = at_hand ten done

  abbrev t : Setting
  t = among_ten ten done

  abbrev rows : Rows
  rows = (Rattle.oe_engine.specs.View.view_of s).rows

  -- it was done
  pub goes_among : (s' : EngineState) (p' : DeliveryPosition)
      → GoesOn s x (request.Delivery q) (InDelivery q p) s' (InDelivery q p')
      → GoesOn s x (request.Deliveries ten) (InDeliveries ten done p) s' (onward t p')
  goes_among s' p' g = record {
    is_open = g.is_open;
    free = g.free;
    change = g.change;
    does = acts_on t q p rows g.change p' g.does;
    accepted = g.accepted;
    room = g.room;
    done = g.done;
    name = g.name;
  }

  -- it was refused
  ends_among : (e : Refusal) → Ends s x (request.Delivery q) (InDelivery q p) e
      → Ends s x (request.Deliveries ten) (InDeliveries ten done p) e
  ends_among e (inl h) = inl h
  ends_among e (inr (inl h)) = inr (inl (h.0, same_fail _ _ e (acts_same t q p rows) h.1))
  ends_among e (inr (inr h)) = let go = same_go _ _ (Some h.1) h.2 (acts_same t q p rows) h.3 in
      inr (inr (h.0, h.1, go.0, go.1, h.4))

  full_among : IsFullHere s x (request.Delivery q) (InDelivery q p)
      → IsFullHere s x (request.Deliveries ten) (InDeliveries ten done p)
  full_among h = let go = same_go _ _ (Some h.0) h.1 (acts_same t q p rows) h.2 in (h.0, go.0, go.1, h.3)

  wants_among : (N : Type 0) → (N ⊎ WantsMemory s x (request.Delivery q) (InDelivery q p))
      → N ⊎ WantsMemory s x (request.Deliveries ten) (InDeliveries ten done p)
  wants_among N (inl h) = inl h
  wants_among N (inr h) = let go = same_go _ _ (Some h.0) h.1 (acts_same t q p rows) h.2 in inr (h.0, go.0, go.1, h.3)

  pub refused_among : (e : Refusal) → IsStageRefusal s x (request.Delivery q) (InDelivery q p) e
      → IsStageRefusal s x (request.Deliveries ten) (InDeliveries ten done p) e
  refused_among NotOpen h = h
  refused_among (Busy n u) h = h
  refused_among UndoFull h = (h.0, h.1, full_among h.2)
  refused_among NoMemory h = (
    h.0,
    h.1,
    wants_among _ h.2,
    gives_way_same _ _ (yields_same q ten done p) _
        (gives_way _ _ _ (acts_same t q p rows) h.3),
  )
  refused_among (NoSuchRow k) h = (h.0, ends_among (NoSuchRow k) h.1)
  refused_among (RowExists k) h = (h.0, ends_among (RowExists k) h.1)
  refused_among (Overflow c) h = (h.0, ends_among (Overflow c) h.1)
  refused_among (Reference k) h = (h.0, ends_among (Reference k) h.1)
  refused_among KeyColumn h = (h.0, ends_among KeyColumn h.1)
  refused_among AlreadyOpen h = (h.0, ends_among AlreadyOpen h.1)
  refused_among InvalidItem h = (h.0, ends_among InvalidItem h.1)
  refused_among NoCustomer h = (h.0, ends_among NoCustomer h.1)
  refused_among (TooOld m) h = (h.0, ends_among (TooOld m) h.1)
  refused_among (Future m) h = (h.0, ends_among (Future m) h.1)
  refused_among (NotQuiet n) h = (h.0, ends_among (NotQuiet n) h.1)
  refused_among (NotPinned n) h = (h.0, ends_among (NotPinned n) h.1)

-- where a course stands, by whether each district is done
module _ (s : EngineState) (x : Handle) (ten : DeliveriesRequest) (c : Course) where
  abbrev place : Bool → Position
  place b = cond b (DeliveriesEnd c.done) (InDeliveries ten c.done c.district)

  -- each is: it is ready
  pub all_done : IsOpen s x → None ≡ next_district ten c → (y : Reply)
      × IsReady s x (request.Deliveries ten) (place_of ten c) y
  all_done o h = by_test (length c.done == 10) h
    where
      by_test : (b : Bool) → ◌≡◌ {A = Option DeliveryRequest} None (cond b None (Some (at_hand ten c.done)))
          → (y : Reply) × IsReady s x (request.Deliveries ten) (place b) y
      by_test true h = (reply.Deliveries c.done, record { is_open = o; free = tt; does = refl })
      by_test false h = let no : ⊥ = cc in absurd no

  -- one is not: it is at hand
  pub not_all : (d : DeliveryRequest) → Some d ≡ next_district ten c → (length c.done == 10) ≡ false
  not_all d h = by_test (length c.done == 10) h
    where
      by_test : (b : Bool) → ◌≡◌ {A = Option DeliveryRequest} (Some d) (cond b None (Some (at_hand ten c.done)))
          → b ≡ false
      by_test true h = let no : ⊥ = cc in absurd no
      by_test false h = refl

  pub is_at_hand : (d : DeliveryRequest) → Some d ≡ next_district ten c → d ≡ at_hand ten c.done
  is_at_hand d h = by_test (length c.done == 10) h
    where
      by_test : (b : Bool) → ◌≡◌ {A = Option DeliveryRequest} (Some d) (cond b None (Some (at_hand ten c.done)))
          → d ≡ at_hand ten c.done
      by_test true h = let no : ⊥ = cc in absurd no
      by_test false h = cc

  -- its stage was done
  went_on : (d : DeliveryRequest) → Some d ≡ next_district ten c → (s' : EngineState) (p' : DeliveryPosition)
      → GoesOn s x (request.Delivery d) (InDelivery d c.district) s' (InDelivery d p')
      → GoesOn s x (request.Deliveries ten) (place_of ten c) s' (onward (among_ten ten c.done) p')
  went_on d h s' p' g =
      subst (λ (b : Bool). GoesOn s x (request.Deliveries ten) (place b) s' (onward (among_ten ten c.done) p'))
      (sym (not_all d h))
      (goes_among s x ten c.done c.district s' p'
      (subst (λ (q : DeliveryRequest). GoesOn s x (request.Delivery q) (InDelivery q c.district) s' (InDelivery q p'))
      (is_at_hand d h) g))

  -- and the district is at its end
  pub ended : (d : DeliveryRequest) → Some d ≡ next_district ten c → (s' : EngineState) (p' : DeliveryPosition)
      → GoesOn s x (request.Delivery d) (InDelivery d c.district) s' (InDelivery d p')
      → (e : DistrictDelivery) → Some e ≡ district_reply p'
      → GoesOn s x (request.Deliveries ten) (place_of ten c) s'
      (place_of ten (record { done = c.done ++ e ∷ []; district = DeliveryQueue }))
  ended d h s' p' g e told =
      subst (λ (z : Position). GoesOn s x (request.Deliveries ten) (place_of ten c) s' z)
      (ap (λ (v : Option DistrictDelivery). let z : Position = elim v
      [ None ↦ InDeliveries ten c.done p' | Some e ↦ after_done ten (c.done ++ e ∷ []) ] in z) (sym told))
      (went_on d h s' p' g)

  -- or goes on
  pub stays : (d : DeliveryRequest) → Some d ≡ next_district ten c → (s' : EngineState) (p' : DeliveryPosition)
      → GoesOn s x (request.Delivery d) (InDelivery d c.district) s' (InDelivery d p')
      → None ≡ district_reply p' → GoesOn s x (request.Deliveries ten) (place_of ten c) s'
      (place_of ten (record { done = c.done; district = p' }))
  stays d h s' p' g told =
      subst (λ (b : Bool). GoesOn s x (request.Deliveries ten) (place_of ten c) s'
      (cond b (DeliveriesEnd c.done) (InDeliveries ten c.done p'))) (sym (not_all d h))
      (subst (λ (z : Position). GoesOn s x (request.Deliveries ten) (place_of ten c) s' z)
      (ap (λ (v : Option DistrictDelivery). let z : Position = elim v
      [ None ↦ InDeliveries ten c.done p' | Some e ↦ after_done ten (c.done ++ e ∷ []) ] in z) (sym told))
      (went_on d h s' p' g))

  -- it was refused
  pub refused : (d : DeliveryRequest) → Some d ≡ next_district ten c → (e : Refusal)
      → IsStageRefusal s x (request.Delivery d) (InDelivery d c.district) e
      → IsStageRefusal s x (request.Deliveries ten) (place_of ten c) e
  refused d h e r =
      subst (λ (b : Bool). IsStageRefusal s x (request.Deliveries ten) (place b) e) (sym (not_all d h))
      (refused_among s x ten c.done c.district e
      (subst (λ (q : DeliveryRequest). IsStageRefusal s x (request.Delivery q) (InDelivery q c.district) e)
      (is_at_hand d h) r))
