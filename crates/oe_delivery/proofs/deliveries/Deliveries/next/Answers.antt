use Rattle.std.proofs.Common.{◌≡◌, Some, refl, sym, ap, subst, ◌∙◌}
use Rattle.oe_requests.specs.declared.requests.Request.TheVariants as request
use Rattle.oe_requests.specs.declared.requests.DeliveryRequest.{DeliveryRequest}
use Rattle.oe_model.specs.Positions.{DeliveryPosition, InDelivery}
use Rattle.oe_engine.specs.Programs.{GoesOn, IsStageRefusal}
use Rattle.oe_delivery.specs.Program.{position_of}
use Rattle.oe_delivery.specs.Deliveries.{Course, place_of, next_district}
use Rattle.oe_delivery.proofs.TenFacts.{all_done, ended, stays, refused}
use Rattle.oe_delivery.proofs.deliveries.Deliveries.next.Goals.{in-Some-reply, in_default-reply, Joined-reply}
use Rattle.oe_delivery.proofs.deliveries.Deliveries.next.Goals as goal

pub returns-in_default : goal.returns-in_default
returns-in_default c = (
  all_done c.args.engine.now c.args.tx.now c.args.request.now c.args.self.now
      (c.is_open.ensures.0 c.if-not-is_open.false) c.in_default.ensures,
  refl,
  refl,
)

-- where it stood
abbrev before : Joined-reply → Course
before c = record { done = c.self.inside.done; district = position_of c.self.inside.program }

hand : (c : Joined-reply) → Some c.in-Some.district ≡ next_district c.args.request.now (before c)
hand c = c.in-Some.ensures ∙ ap (next_district c.args.request.now) (sym c.self.view_is)

-- it went on from there
abbrev Goes : Joined-reply → Course → Course → Type 0
Goes c k l = GoesOn c.args.engine.now c.args.tx.now (request.Deliveries c.args.request.now)
    (place_of c.args.request.now k) c.next.new.engine (place_of c.args.request.now l)

pub returns-after-reply : goal.returns-after-reply
returns-after-reply c =
    subst (λ (k : Course). Goes c k c.match-reply.self) c.self.view_is
    (elim c.match-reply.branch [
      | in-Some-reply w ↦
          subst (λ (l : Course). Goes c (before c) l)
          (sym (w.self-is ∙ (λ i. record {
            done = w.push.ensures i;
            district = position_of (w.new-self-inside.ensures i);
          })))
          (ended c.args.engine.now c.args.tx.now c.args.request.now (before c) c.in-Some.district (hand c)
          c.next.new.engine (position_of c.next.new.self) c.in-More.ensures w.in-Some-reply.delivery
          w.in-Some-reply.ensures)
      | in_default-reply w ↦
          subst (λ (l : Course). Goes c (before c) l) (sym w.self-is)
          (stays c.args.engine.now c.args.tx.now c.args.request.now (before c) c.in-Some.district (hand c)
          c.next.new.engine (position_of c.next.new.self) c.in-More.ensures w.in_default-reply.ensures)
    ])

-- a district's position is known by that of its delivery
same_position : (q : DeliveryRequest) (p z : DeliveryPosition) → InDelivery q p ≡ InDelivery q z → p ≡ z
same_position q p z e = cc

pub returns-in-Refused : goal.returns-in-Refused
returns-in-Refused c =
    let old : Course = record { done = c.self.inside.done; district = position_of c.self.inside.program } in
    let hand : Some c.in-Some.district ≡ next_district c.args.request.now old = c.in-Some.ensures
    ∙ ap (next_district c.args.request.now) (sym c.self.view_is) in (
      subst (λ (k : Course). IsStageRefusal c.args.engine.now c.args.tx.now (request.Deliveries c.args.request.now)
          (place_of c.args.request.now k) c.in-Refused.refusal) c.self.view_is
          (refused c.args.engine.now c.args.tx.now c.args.request.now old c.in-Some.district hand c.in-Refused.refusal
          c.in-Refused.ensures.0),
      c.in-Refused.ensures.1,
      c.in-Refused.ensures.2,
      (λ i. place_of c.args.request.now
          (record {
            done = c.self.inside.done;
            district = same_position c.in-Some.district (position_of c.next.new.self)
                (position_of c.self.inside.program) c.in-Refused.ensures.3 i;
          }))
          ∙ ap (place_of c.args.request.now) c.self.view_is,
    )
