-- A stage of a New-Order's program on an engine.
use Rattle.std.specs.Prelude.{◌≡◌, ℕ, ◌+◌, List, ◌∷◌, length, Option, None, Some}
use Rattle.oe_requests.specs.declared.requests.Request.TheVariants as request
use Rattle.oe_requests.specs.declared.requests.RequestLine.{RequestLine}
use Rattle.oe_requests.specs.declared.requests.NewOrderRequest.{NewOrderRequest}
use Rattle.oe_requests.specs.declared.replies.LineReply.{LineReply}
use Rattle.oe_model.specs.Positions.{Seen, NewOrderPosition, NewOrderStock, NewOrderLine, InNewOrder}
use Rattle.oe_model.specs.NewOrder.{new_order_taken}
use Rattle.oe_engine.specs.View.{EngineState, view_of, Handle}
use Rattle.oe_engine.specs.Programs.{GoesOn, IsStageRefusal, Progresses}
use Rattle.oe_engine.specs.declared.programs.Progress.{Progress}
use Rattle.oe_engine.specs.declared.programs.Progress.TheVariants as progress
use Rattle.oe_engine.specs.Stages.{HoldsAll}
use Rattle.oe_neworder.specs.Program.{filled_by, position_of}
use Rattle.oe_neworder.specs.declared.fillings.Filled.{Filled}
use Rattle.oe_neworder.specs.declared.programs.Program.{Program}

-- one stage, from one position to another
abbrev pub Advances : NewOrderRequest → Handle → EngineState → NewOrderPosition → Progress → EngineState
    → NewOrderPosition → Type 0
Advances q x s p y s' p' =
    Progresses (request.NewOrder q) x s (InNewOrder q p) y s' (InNewOrder q p')

-- the names that are taken on the way to this position are held
abbrev pub HoldsTaken : NewOrderRequest → Handle → EngineState → NewOrderPosition → Type 0
HoldsTaken q x s p = HoldsAll (view_of s) x.terminal (new_order_taken q p)

-- a stage before the lines, from this position: the program after it; one whose stage was refused stays
abbrev pub Steps : NewOrderRequest → Handle → EngineState → NewOrderPosition → Program → Progress → EngineState
    → Program → Type 0
Steps q x s p b progress.More s' b' =
    GoesOn s x (request.NewOrder q) (InNewOrder q p) s' (InNewOrder q (position_of q b'))
Steps q x s p b progress.Ready s' b' = ⊥
Steps q x s p b (progress.Refused e) s' b' =
    IsStageRefusal s x (request.NewOrder q) (InNewOrder q p) e × (view_of s' ≡ view_of s)
    × (s'.name ≡ s.name) × (b' ≡ b)

-- the stage of the stock of this line, number n of its order: the line as it was filled, or none where it was refused
abbrev pub Fills : NewOrderRequest → Handle → EngineState → RequestLine → ℕ → Progress → EngineState
    → Option Filled → Type 0
Fills q x s l n progress.More s' (Some f) =
    (y : Seen) (before : List RequestLine) (done : List LineReply) (ls : List RequestLine)
    → length before + 1 ≡ n
    → GoesOn s x (request.NewOrder q)
    (InNewOrder q (NewOrderStock y before done (l ∷ ls))) s'
    (InNewOrder q (NewOrderLine y before done l (filled_by f) ls))
Fills q x s l n progress.More s' None = ⊥
Fills q x s l n progress.Ready s' o = ⊥
Fills q x s l n (progress.Refused e) s' o =
    ((y : Seen) (before : List RequestLine) (done : List LineReply) (ls : List RequestLine)
    → length before + 1 ≡ n
    → IsStageRefusal s x (request.NewOrder q) (InNewOrder q (NewOrderStock y before done (l ∷ ls))) e)
    × (view_of s' ≡ view_of s) × (s'.name ≡ s.name) × (o ≡ None)
