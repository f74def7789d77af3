-- A stage of a payment is a step of the program.
use Rattle.std.proofs.Common.{◌≡◌, ℕ, List, refl, sym, ap, subst, ◌∙◌}
use Rattle.std.specs.Prelude.{IsSome}
use Rattle.oe_requests.specs.declared.replies.Reply.{Reply}
use Rattle.oe_requests.specs.declared.replies.Reply.TheVariants as reply
use Rattle.oe_requests.specs.declared.requests.CustomerChoice.{CustomerChoice}
use Rattle.oe_requests.specs.declared.requests.CustomerChoice.TheVariants.{Number, LastName}
use Rattle.oe_requests.specs.declared.requests.PaymentRequest.{PaymentRequest}
use Rattle.oe_requests.specs.declared.requests.Request.TheVariants as request
use Rattle.oe_model.specs.Payment.{behind_district}
use Rattle.oe_model.specs.Positions.{PaymentPosition, PaymentWarehouse, PaymentDistrict, PaymentNames}
use Rattle.oe_model.specs.Positions.{PaymentCustomer, PaymentHistory, PaymentEnd, InPayment}
use Rattle.oe_engine.specs.View.{EngineState, Handle, IsOpen}
use Rattle.oe_engine.specs.Programs.{GoesOn, IsReady, payment_reply, IsStageRefusal, Progresses}
use Rattle.oe_engine.specs.declared.programs.Progress.{Progress}
use Rattle.oe_engine.specs.declared.programs.Progress.TheVariants as progress
use Rattle.oe_payment.specs.declared.positions.Position.{Position}
use Rattle.oe_payment.specs.declared.positions.Stage.{Stage}
use Rattle.oe_payment.specs.declared.positions.Stage.TheVariants as stage
use Rattle.oe_payment.specs.Program.{position_at, position_in, stage_behind, number_given}
use Rattle.oe_payment.specs.Stages.{Does, stage_after}

-- a payment at its end is ready
pub is_ready : (s : EngineState) (x : Handle) (q : PaymentRequest) (p : PaymentPosition) → IsOpen s x
    → IsSome (payment_reply p)
    → (y : Reply) × IsReady s x (request.Payment q) (InPayment q p) y
is_ready s x q (PaymentEnd y) o h = (reply.Payment y, record { is_open = o; free = tt; does = refl })
is_ready s x q PaymentWarehouse o h = let no : ⊥ = cc in absurd no
is_ready s x q (PaymentDistrict w) o h = let no : ⊥ = cc in absurd no
is_ready s x q (PaymentNames w d) o h = let no : ⊥ = cc in absurd no
is_ready s x q (PaymentCustomer w d c) o h = let no : ⊥ = cc in absurd no
is_ready s x q (PaymentHistory d y) o h = let no : ⊥ = cc in absurd no

-- a stage of a payment whose names and reply may have been written: they count once it is done
pub carried : (q : PaymentRequest) (x : Handle) (s s' : EngineState) (p p' : PaymentPosition) (old : Position)
    (next : Stage) (at : Stage → Position) (r : Progress)
    → position_in old ≡ p → position_in (at old.stage) ≡ p → position_in (at next) ≡ p' → Does q x s p r s' p'
    → Progresses (request.Payment q) x s (InPayment q (position_in old)) r s'
    (InPayment q (position_in (at (stage_after next r old.stage))))
carried q x s s' p p' old next at progress.More e f g h =
    subst (λ (z : PaymentPosition). GoesOn s x (request.Payment q) (InPayment q z) s'
    (InPayment q (position_in (at next)))) (sym e)
    (subst (λ (z : PaymentPosition). GoesOn s x (request.Payment q) (InPayment q p) s' (InPayment q z)) (sym g) h)
carried q x s s' p p' old next at progress.Ready e f g h = absurd h
carried q x s s' p p' old next at (progress.Refused why) e f g h = (
  subst (λ (z : PaymentPosition). IsStageRefusal s x (request.Payment q) (InPayment q z) why) (sym e) h.0,
  h.1,
  h.2,
  ap (InPayment q) (f ∙ sym e),
)

-- behind its district it stands at the stage that its request chooses, with the number that this gives
pub stands_behind : (who : CustomerChoice) (p : Position) (d : List ℕ)
    → position_at (stage_behind who) (record p {
      stage = stage_behind who;
      district = d;
      reply = record p.reply { customer = number_given who p.reply.customer };
    }) ≡ behind_district who p.warehouse d
stands_behind (Number c) p d = refl
stands_behind (LastName last) p d = refl

pub ready_at_end : (q : PaymentRequest) (x : Handle) (s : EngineState) (p : Position) → IsOpen s x → p.stage ≡ stage.End
    → Progresses (request.Payment q) x s (InPayment q (position_in p)) progress.Ready s (InPayment q (position_in p))
ready_at_end q x s p o e = (
  is_ready s x q (position_in p) o (subst (λ (k : Stage). IsSome (payment_reply (position_at k p))) (sym e) refl),
  refl,
  refl,
)
