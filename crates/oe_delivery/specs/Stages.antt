-- A stage of a delivery's program on an engine.
use Rattle.std.specs.Prelude.{◌≡◌}
use Rattle.oe_requests.specs.declared.requests.Request.TheVariants as request
use Rattle.oe_requests.specs.declared.requests.DeliveryRequest.{DeliveryRequest}
use Rattle.oe_model.specs.Positions.{DeliveryPosition, InDelivery}
use Rattle.oe_model.specs.Delivery.{delivery_taken}
use Rattle.oe_engine.specs.View.{EngineState, view_of, Handle}
use Rattle.oe_engine.specs.Stages.{HoldsAll}
use Rattle.oe_engine.specs.Programs.{GoesOn, IsStageRefusal, Progresses}
use Rattle.oe_engine.specs.declared.programs.Progress.{Progress}
use Rattle.oe_engine.specs.declared.programs.Progress.TheVariants as progress
use Rattle.oe_delivery.specs.Program.{position_of}
use Rattle.oe_delivery.specs.declared.programs.Program.{Program}

-- one stage, from one position to another
abbrev pub Advances : DeliveryRequest → Handle → EngineState → DeliveryPosition → Progress → EngineState
    → DeliveryPosition → Type 0
Advances q x s p y s' p' =
    Progresses (request.Delivery q) x s (InDelivery q p) y s' (InDelivery q p')

-- the names that are taken on the way to this position are held
abbrev pub HoldsTaken : DeliveryRequest → Handle → EngineState → DeliveryPosition → Type 0
HoldsTaken q x s p = HoldsAll (view_of s) x.terminal (delivery_taken q p)

-- a stage beside the lines, from this position: the program after it; one whose stage was refused stays
abbrev pub Steps : DeliveryRequest → Handle → EngineState → DeliveryPosition → Program → Progress → EngineState
    → Program → Type 0
Steps q x s p b progress.More s' b' =
    GoesOn s x (request.Delivery q) (InDelivery q p) s' (InDelivery q (position_of b'))
Steps q x s p b progress.Ready s' b' = ⊥
Steps q x s p b (progress.Refused e) s' b' =
    IsStageRefusal s x (request.Delivery q) (InDelivery q p) e × (view_of s' ≡ view_of s)
    × (s'.name ≡ s.name) × (b' ≡ b)
