-- What the stages of a delivery ask for and do, of the rows as they are.
use Rattle.std.proofs.Common.{◌≡◌, ℕ, zero, suc, ◌+◌, refl, sym, ap, ◌∙◌, subst, inl, List, [], ◌∷◌, drop, map, Option}
use Rattle.std.proofs.Common.{None, Some, Result, Ok, Err, arith}
use Rattle.std.specs.Prelude.{IsSome, option_map}
use Rattle.std.specs.FinMap.{get}
use Rattle.oe_theory.specs.Machine.{Plain, Take, Go, Exclusive}
use Rattle.oe_theory.specs.Machine as theory
use Rattle.oe_rows.specs.declared.keys.OrderKey.{OrderKey}
use Rattle.oe_rows.specs.declared.keys.OrderLineKey.{OrderLineKey}
use Rattle.oe_rows.specs.declared.keys.CustomerKey.{CustomerKey}
use Rattle.oe_rows.specs.declared.keys.NewOrderKey.{NewOrderKey}
use Rattle.oe_rows.specs.declared.keys.Key.TheVariants as key
use Rattle.oe_rows.specs.declared.locks.Name.TheVariants as name
use Rattle.oe_rows.specs.declared.customers.Account.{Account}
use Rattle.oe_rows.specs.declared.customers.Customer.{Customer}
use Rattle.oe_rows.specs.declared.orders.Order.{Order}
use Rattle.oe_rows.specs.declared.orders.OrderLine.{OrderLine}
use Rattle.oe_requests.specs.declared.requests.DeliveryRequest.{DeliveryRequest}
use Rattle.oe_requests.specs.declared.requests.Request.TheVariants as request
use Rattle.oe_requests.specs.declared.replies.DeliveredOrder.{DeliveredOrder}
use Rattle.oe_requests.specs.declared.replies.Reply.{Reply}
use Rattle.oe_requests.specs.declared.replies.Reply.TheVariants as reply
use Rattle.oe_requests.specs.declared.replies.DistrictDelivery.TheVariants.{Skipped}
use Rattle.oe_requests.specs.declared.refusals.Column.{Column}
use Rattle.oe_requests.specs.declared.refusals.Refusal.TheVariants.{NoSuchRow}
use Rattle.oe_change.specs.declared.writes.Write.TheVariants as write
use Rattle.oe_formulas.specs.Checks.{row_in_ranges}
use Rattle.oe_model.specs.Rows.{Rows}
use Rattle.oe_model.specs.Keys.{customer_in, order_in, new_order_in, line_in}
use Rattle.oe_model.specs.Changes.{Change, DeleteNewOrder, UpdateOrder, UpdateOrderLine, UpdateCustomer}
use Rattle.oe_model.specs.Effects.{Doing, with_value, within}
use Rattle.oe_model.specs.Positions.{DeliveryPosition, DeliveryQueue, DeliveryNothing, DeliveryOrder, DeliveryLine}
use Rattle.oe_model.specs.Positions.{DeliveryEnd, InDelivery}
use Rattle.oe_model.specs.Delivery.{oldest, lines_of, with_carrier, with_date, delivered_to, delivered_out}
use Rattle.oe_model.specs.Delivery.{delivery_of_order}
use Rattle.oe_model.specs.Delivery.{delivery_ask, delivery_act, delivery_taken}
use Rattle.oe_engine.specs.View.{EngineState, View, view_of, Handle, IsOpen}
use Rattle.oe_engine.specs.Stages.{HoldsAll}
use Rattle.oe_engine.specs.Writes.{change_written}
use Rattle.oe_engine.specs.Programs.{ask_here, act_here, GoesOn, IsReady, IsStageRefusal, district_reply}
use Rattle.oe_engine.specs.declared.programs.Progress.{Progress}
use Rattle.oe_engine.specs.declared.programs.Progress.TheVariants as progress
use Rattle.oe_delivery.specs.Remainder.{Left, remainder_of}
use Rattle.oe_delivery.specs.Program.{customer_position, line_position, position_of}
use Rattle.oe_delivery.specs.Stages.{Advances, Steps}
use Rattle.oe_delivery.specs.declared.programs.Program.{Program}
use Rattle.oe_engine.proofs.HeldFacts.{alone}

-- a row whose columns are in their ranges goes on with the stage after it
goes_within : {A : Type 0} (out : A → Option Column) (x : A) (d : A → Doing) (after : A)
    → ◌≡◌ {A = Result A Column} (Ok after) (row_in_ranges out x) → within (out x) (d x) ≡ d after
goes_within {A} out x d after e = go (out x) e
  where
    go : (o : Option Column) → ◌≡◌ {A = Result A Column} (Ok after) (elim o [ None ↦ Ok x | Some c ↦ Err c ])
        → within o (d x) ≡ d after
    go None e = let same : after ≡ x = cc in ap d (sym same)
    go (Some c) e = let no : ⊥ = cc in absurd no

module _ (s : EngineState) (x : Handle) (q : DeliveryRequest) where
  abbrev here : Rows
  here = (view_of s).rows

  -- NEW-ORDER
  abbrev on_oldest : Option ℕ → Doing
  on_oldest o =
      elim o [
        | None ↦ Go None (InDelivery q DeliveryNothing)
        | Some o ↦ Go (Some (DeleteNewOrder (new_order_in q.district o))) (InDelivery q (DeliveryOrder o))
      ]

  pub none_waits : oldest q.district here.new_orders ≡ None
      → act_here s x (request.Delivery q) (InDelivery q DeliveryQueue) ≡ Go None (InDelivery q DeliveryNothing)
  none_waits e = ap on_oldest e

  pub one_waits : (o : ℕ) (k : NewOrderKey) → k ≡ new_order_in q.district o → oldest q.district here.new_orders ≡ Some o
      → act_here s x (request.Delivery q) (InDelivery q DeliveryQueue) ≡ Go (Some (DeleteNewOrder k))
      (InDelivery q (DeliveryOrder o))
  one_waits o k is e = ap on_oldest e
      ∙ ap (λ (j : NewOrderKey). Go (Some (DeleteNewOrder j)) (InDelivery q (DeliveryOrder o))) (sym is)

  -- ORDER
  abbrev pub CarrierStage : ℕ → OrderKey → Left → Type 0
  CarrierStage o k l =
      (c : Change) × (change_written (write.Carrier k q.carrier) (view_of s) ≡ Some c)
      × (ask_here s x (request.Delivery q) (InDelivery q (DeliveryOrder o)) ≡ Take (name.Order k) Exclusive)
      × (act_here s x (request.Delivery q) (InDelivery q (DeliveryOrder o)) ≡ Go (Some c)
      (InDelivery q (line_position l)))

  module _ (o : ℕ) where
    abbrev own : OrderKey
    own = order_in q.district o

    abbrev do_order : Order → Doing
    do_order z = Go (Some (UpdateOrder own (with_carrier q.carrier z)))
        (InDelivery q (DeliveryLine o z.customer (map (λ e. e.0.number) (lines_of own here.order_lines)) 0))

    carrier_own : (l : Left) (v : Option Order) → get here.orders own ≡ v
        → Some l ≡ option_map (remainder_of own here) v → CarrierStage o own l
    carrier_own l None e is = let no : ⊥ = cc in absurd no
    carrier_own l (Some z) e is =
        let same : l ≡ remainder_of own here z = cc in (
          UpdateOrder own (with_carrier q.carrier z),
          ap (option_map (λ y. UpdateOrder own (with_carrier q.carrier y))) e,
          refl,
          ap (λ v. with_value (NoSuchRow (key.Order own)) v do_order) e
              ∙ ap (λ (y : Left). Go (Some (UpdateOrder own (with_carrier q.carrier z)))
              (InDelivery q (line_position y)))
              (sym same),
        )

    pub carrier_stage : (l : Left) (k : OrderKey) → k ≡ own
        → Some l ≡ option_map (remainder_of k here) (get here.orders k) → CarrierStage o k l
    carrier_stage l k is e =
        subst (λ (j : OrderKey). Some l ≡ option_map (remainder_of j here) (get here.orders j) → CarrierStage o j l)
        (sym is)
        (λ h. carrier_own l (get here.orders own) refl h) e

  -- ORDER-LINE
  module _ (l : Left) where
    module _ (n : ℕ) (next : l.numbers ≡ n ∷ drop 1 l.numbers) where
      abbrev line : OrderLineKey
      line = line_in (order_in q.district l.order) n

      pub line_asks : ask_here s x (request.Delivery q) (InDelivery q (line_position l)) ≡ Plain
      line_asks = ap (λ ns. delivery_ask q (DeliveryLine l.order l.customer ns l.sum) here) next

      abbrev after_line : OrderLine → DeliveryPosition
      after_line z = DeliveryLine l.order l.customer (drop 1 l.numbers) (l.sum + z.amount)

      abbrev do_line : OrderLine → Doing
      do_line z = Go (Some (UpdateOrderLine line (with_date q.stamp z))) (InDelivery q (after_line z))

      line_own : (z : OrderLine) → get here.order_lines line ≡ Some z
          → act_here s x (request.Delivery q) (InDelivery q (line_position l)) ≡ Go
          (Some (UpdateOrderLine line (with_date q.stamp z))) (InDelivery q (after_line z))
      line_own z e =
          ap (λ ns. delivery_act q (DeliveryLine l.order l.customer ns l.sum) here) next
          ∙ ap (λ v. with_value (NoSuchRow (key.OrderLine line)) v do_line) e

      pub line_does : (k : OrderLineKey) → k ≡ line → (z : OrderLine) → get here.order_lines k ≡ Some z
          → act_here s x (request.Delivery q) (InDelivery q (line_position l)) ≡ Go
          (Some (UpdateOrderLine k (with_date q.stamp z)))
          (InDelivery q (DeliveryLine l.order l.customer (drop 1 l.numbers) (l.sum + z.amount)))
      line_does k is z e =
          line_own z (subst (λ (j : OrderLineKey). get here.order_lines j ≡ Some z) is e)
          ∙ ap (λ (j : OrderLineKey). Go (Some (UpdateOrderLine j (with_date q.stamp z))) (InDelivery q (after_line z)))
          (sym is)

    -- CUSTOMER
    module _ (last : l.numbers ≡ []) where
      abbrev payer : CustomerKey
      payer = customer_in q.district l.customer

      pub customer_asks : (k : CustomerKey) → k ≡ payer
          → ask_here s x (request.Delivery q) (InDelivery q (line_position l)) ≡ Take (name.Customer k) Exclusive
      customer_asks k is =
          ap (λ ns. delivery_ask q (DeliveryLine l.order l.customer ns l.sum) here) last
          ∙ ap (λ (j : CustomerKey). Take (name.Customer j) Exclusive) (sym is)

      abbrev on_customer : Customer → Doing
      on_customer after = Go (Some (UpdateCustomer payer after)) (InDelivery q (DeliveryEnd l.order l.customer l.sum))

      abbrev do_customer : Customer → Doing
      do_customer z = within (delivered_out (delivered_to l.sum z)) (on_customer (delivered_to l.sum z))

      customer_own : (z : Customer) (a : Account) → get here.customers payer ≡ Some z
          → Ok (record z { account = a }) ≡ row_in_ranges delivered_out (delivered_to l.sum z)
          → act_here s x (request.Delivery q) (InDelivery q (line_position l)) ≡ on_customer (record z { account = a })
      customer_own z a e fits =
          ap (λ ns. delivery_act q (DeliveryLine l.order l.customer ns l.sum) here) last
          ∙ ap (λ v. with_value (NoSuchRow (key.Customer payer)) v do_customer) e
          ∙ goes_within delivered_out (delivered_to l.sum z) on_customer (record z { account = a }) fits

      pub customer_does : (k : CustomerKey) → k ≡ payer → (z : Customer) (a : Account) → get here.customers k ≡ Some z
          → Ok (record z { account = a }) ≡ row_in_ranges delivered_out (delivered_to l.sum z)
          → act_here s x (request.Delivery q) (InDelivery q (line_position l)) ≡ Go
          (Some (UpdateCustomer k (record z { account = a }))) (InDelivery q (DeliveryEnd l.order l.customer l.sum))
      customer_does k is z a e fits =
          customer_own z a (subst (λ (j : CustomerKey). get here.customers j ≡ Some z) is e) fits
          ∙ ap (λ (j : CustomerKey). Go (Some (UpdateCustomer j (record z { account = a })))
          (InDelivery q (DeliveryEnd l.order l.customer l.sum))) (sym is)

-- once all lines are dated, the position before the customer is the one with what the delivery answers
pub before_customer : (l : Left) (y : DeliveredOrder) → l.numbers ≡ []
    → y ≡ record { order = l.order; customer = l.customer; sum = l.sum } → line_position l ≡ customer_position y
before_customer l y last is =
    ap (λ ns. DeliveryLine l.order l.customer ns l.sum) last ∙ ap customer_position (sym is)

-- a stage from this position is one from the program's
pub steps_on : (q : DeliveryRequest) (x : Handle) (s : EngineState) (p : DeliveryPosition) (b : Program) (y : Progress)
    (s' : EngineState) (b' : Program) → position_of b ≡ p → Steps q x s p b y s' b'
    → Advances q x s (position_of b) y s' (position_of b')
steps_on q x s p b progress.More s' b' at h =
    subst (λ z. GoesOn s x (request.Delivery q) (InDelivery q z) s' (InDelivery q (position_of b'))) (sym at) h
steps_on q x s p b progress.Ready s' b' at h = absurd h
steps_on q x s p b (progress.Refused e) s' b' at h = (
  subst (λ z. IsStageRefusal s x (request.Delivery q) (InDelivery q z) e) (sym at) h.0,
  h.1,
  h.2,
  ap (λ c. InDelivery q (position_of c)) h.3,
)

pub order_held : (v : View) (t : ℕ) (q : DeliveryRequest) (l : Left) → HoldsAll v t (delivery_taken q (line_position l))
    → v.held t (name.Order (order_in q.district l.order)) ≡ Some theory.Exclusive
order_held v t q l h = alone (v.held t (name.Order (order_in q.district l.order)))
    (h (name.Order (order_in q.district l.order)) theory.Exclusive (inl (refl, tt)))

-- a program with its reply is ready
pub is_ready : (s : EngineState) (x : Handle) (q : DeliveryRequest) (p : DeliveryPosition) → IsOpen s x
    → IsSome (district_reply p)
    → (y : Reply) × IsReady s x (request.Delivery q) (InDelivery q p) y
is_ready s x q DeliveryNothing o h = (reply.Delivery Skipped, record { is_open = o; free = tt; does = refl })
is_ready s x q (DeliveryEnd n c sum) o h =
    (reply.Delivery (delivery_of_order n c sum), record { is_open = o; free = tt; does = refl })
is_ready s x q DeliveryQueue o h = let no : ⊥ = cc in absurd no
is_ready s x q (DeliveryOrder n) o h = let no : ⊥ = cc in absurd no
is_ready s x q (DeliveryLine n c ns sum) o h = let no : ⊥ = cc in absurd no

-- one position further
drop_next : {A : Type 0} (n : ℕ) (xs : List A) → drop (suc n) xs ≡ drop 1 (drop n xs)
drop_next zero xs = refl
drop_next (suc n) [] = refl
drop_next (suc n) (x ∷ xs) = drop_next n xs

pub drop_more : {A : Type 0} (n : ℕ) (xs : List A) → drop (n + 1) xs ≡ drop 1 (drop n xs)
drop_more n xs = ap (λ (k : ℕ). drop k xs) (let e : n + 1 ≡ suc n = omega arith in e) ∙ drop_next n xs
