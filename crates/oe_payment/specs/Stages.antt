-- What a stage of a payment makes of an engine, by the model.
use Rattle.std.specs.Prelude.{◌≡◌, Bool, true, false, Option, None, Some}
use Rattle.oe_theory.specs.Machine.{Go, Take, Fail, Exclusive}
use Rattle.oe_rows.specs.declared.keys.Key.{Key}
use Rattle.oe_rows.specs.declared.locks.Name.{Name}
use Rattle.oe_requests.specs.declared.refusals.Column.{Column}
use Rattle.oe_requests.specs.declared.requests.Request.TheVariants as request
use Rattle.oe_requests.specs.declared.requests.PaymentRequest.{PaymentRequest}
use Rattle.oe_requests.specs.declared.refusals.Refusal.{Refusal}
use Rattle.oe_requests.specs.declared.refusals.Refusal.TheVariants.{NoSuchRow, NoCustomer, Overflow}
use Rattle.oe_model.specs.Changes.{Change}
use Rattle.oe_model.specs.Positions.{PaymentPosition, InPayment}
use Rattle.oe_change.specs.declared.writes.Write.{Write}
use Rattle.oe_engine.specs.View.{EngineState, view_of, Handle}
use Rattle.oe_writes.specs.Asks.{ask_of_write}
use Rattle.oe_engine.specs.Writes.{change_written}
use Rattle.oe_engine.specs.Programs.{ask_here, act_here, GoesOn, IsStageRefusal}
use Rattle.oe_engine.specs.declared.programs.Progress.{Progress}
use Rattle.oe_engine.specs.declared.programs.Progress.TheVariants as progress
use Rattle.oe_payment.specs.declared.positions.Stage.{Stage}

-- the refusals that a stage fails with
abbrev pub is_failure : Refusal → Bool
is_failure (NoSuchRow k) = true
is_failure NoCustomer = true
is_failure (Overflow c) = true
is_failure _ = false

-- why the stage at this position is refused
abbrev pub IsRefusedHere : PaymentRequest → Handle → EngineState → PaymentPosition → Refusal → Type 0
IsRefusedHere q x s p e = IsStageRefusal s x (request.Payment q) (InPayment q p) e

-- the stage that asks for this lock alone and fails for a cause is refused so
abbrev pub FailsUnder : Handle → EngineState → Name → Refusal → Refusal → Type 0
FailsUnder x s n cause e = (q : PaymentRequest) (p : PaymentPosition)
    → ask_here s x (request.Payment q) (InPayment q p) ≡ Take n Exclusive
    → act_here s x (request.Payment q) (InPayment q p) ≡ Fail cause → IsRefusedHere q x s p e

-- a column of the row would leave its range, or there is no row
abbrev pub failed_by : Key → Option Column → Refusal
failed_by k (Some c) = Overflow c
failed_by k None = NoSuchRow k

-- the stage at this position is done, and the payment goes on at another; or it is refused, and the engine stands for
-- what it did
abbrev pub Does : PaymentRequest → Handle → EngineState → PaymentPosition → Progress → EngineState → PaymentPosition
    → Type 0
Does q x s p progress.More s' p' = GoesOn s x (request.Payment q) (InPayment q p) s' (InPayment q p')
Does q x s p progress.Ready s' p' = ⊥
Does q x s p (progress.Refused e) s' p' = IsRefusedHere q x s p e × (view_of s' ≡ view_of s) × (s'.name ≡ s.name)

-- the stage that comes next where one is done, and the same one again where it is not
abbrev pub stage_after : Stage → Progress → Stage → Stage
stage_after next progress.More now = next
stage_after next progress.Ready now = now
stage_after next (progress.Refused e) now = now

-- the stage at this position asks for the lock of the write, makes the change that the write is, and the payment goes
-- on
pub record IsStage (q : PaymentRequest) (x : Handle) (s : EngineState) (p : PaymentPosition)
    (w : Write) (c : Change) (p' : PaymentPosition) : Type 0 where
  pub asks : ask_here s x (request.Payment q) (InPayment q p) ≡ ask_of_write w
  pub does : act_here s x (request.Payment q) (InPayment q p) ≡ Go (Some c) (InPayment q p')
  pub written : change_written w (view_of s) ≡ Some c
