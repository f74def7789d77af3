-- A stage of a program, in the words of the theory of transactions.
use Rattle.std.specs.Prelude.{◌≡◌, ◌⊎◌, suc, [], Option, None, Some, option_map}
use Rattle.oe_theory.specs.Machine.{Tx, Ask, Stop, Take, Act, Fail, Go, Ready}
use Rattle.oe_theory.specs.Machine as theory
use Rattle.oe_theory.specs.Next.{IsNew, GivesWay}
use Rattle.oe_requests.specs.declared.requests.Request.{Request}
use Rattle.oe_requests.specs.declared.requests.RenameRequest.{RenameRequest}
use Rattle.oe_requests.specs.declared.replies.Reply.{Reply}
use Rattle.oe_requests.specs.declared.replies.Reply.TheVariants as reply
use Rattle.oe_requests.specs.declared.replies.DistrictDelivery.{DistrictDelivery}
use Rattle.oe_requests.specs.declared.replies.DistrictDelivery.TheVariants.{Skipped}
use Rattle.oe_requests.specs.declared.refusals.Refusal.{Refusal}
use Rattle.oe_requests.specs.declared.refusals.Refusal.TheVariants.{Busy, UndoFull, NotOpen, NoMemory}
use Rattle.oe_model.specs.Changes.{Change}
use Rattle.oe_model.specs.Meets.{Cause}
use Rattle.oe_model.specs.Positions.{Position, InPayment, InNewOrder, InDelivery, InDeliveries, DeliveriesEnd}
use Rattle.oe_model.specs.Positions.{InRename, PaymentPosition, PaymentEnd, NewOrderPosition, NewOrderStock}
use Rattle.oe_model.specs.Positions.{DeliveryPosition, DeliveryNothing, DeliveryEnd, RenamePosition, RenameEnd}
use Rattle.oe_model.specs.NewOrder.{ordered_reply}
use Rattle.oe_model.specs.Delivery.{delivery_of_order}
use Rattle.oe_model.specs.Deliveries.{among_ten}
use Rattle.oe_model.specs.Rename.{rename_reply}
use Rattle.oe_model.specs.System.{system, ask, act, yields}
use Rattle.oe_engine.specs.View.{EngineState, view_of, Handle, IsOpen}
use Rattle.oe_engine.specs.Calls.{IsFree, IsInTheWay, IsFullFor, IsFullForAny, after_stage, AcceptsAll, WantsPlace}
use Rattle.oe_engine.specs.declared.programs.Progress.{Progress}
use Rattle.oe_engine.specs.declared.programs.Progress.TheVariants as progress

-- the transaction of a handle, which carries out this request
abbrev pub tx_of : EngineState → Handle → Request → Tx Request
tx_of s x q = record { terminal = x.terminal; number = suc ((view_of s).counts x.terminal); request = q }

-- what the stage at this position asks for, and what it does
abbrev pub ask_here : EngineState → Handle → Request → Position → Ask (system.Name) Refusal
ask_here s x q p = ask (tx_of s x q) p (view_of s).rows

abbrev pub act_here : EngineState → Handle → Request → Position → Act Change Position Reply Refusal
act_here s x q p = act (tx_of s x q) p (view_of s).rows

-- the stage's lock is free
abbrev pub IsFreeHere : EngineState → Handle → Request → Position → Type 0
IsFreeHere s x q p = IsFree (view_of s) x.terminal (ask_here s x q p)

-- the stage was done, and the program goes on at another position
pub record GoesOn (s : EngineState) (x : Handle) (q : Request) (p : Position) (s' : EngineState) (p' : Position) : Type
    0 where
  pub is_open : IsOpen s x
  pub free : IsFreeHere s x q p
  pub change : Option Change
  pub does : act_here s x q p ≡ Go change p'
  pub accepted : AcceptsAll change (view_of s).rows
  pub room : IsFullForAny (view_of s) x.terminal change → ⊥
  pub done : view_of s' ≡ after_stage x.terminal (ask_here s x q p) change (view_of s)
  pub name : s'.name ≡ s.name

-- the reply of a program that has come to its end, by its position
abbrev pub payment_reply : PaymentPosition → Option Reply
payment_reply (PaymentEnd y) = Some (reply.Payment y)
payment_reply _ = None

abbrev pub new_order_reply : NewOrderPosition → Option Reply
new_order_reply (NewOrderStock s before done []) = Some (reply.NewOrder (ordered_reply s done))
new_order_reply _ = None

-- what a district answers at its end
abbrev pub district_reply : DeliveryPosition → Option DistrictDelivery
district_reply DeliveryNothing = Some Skipped
district_reply (DeliveryEnd o c sum) = Some (delivery_of_order o c sum)
district_reply _ = None

abbrev pub renamed_reply : RenameRequest → RenamePosition → Option Reply
renamed_reply q (RenameEnd last) = Some (reply.Rename (rename_reply q))
renamed_reply q _ = None

abbrev pub reply_at : Position → Option Reply
reply_at (InPayment q p) = payment_reply p
reply_at (InNewOrder q p) = new_order_reply p
reply_at (InDelivery q p) = option_map reply.Delivery (district_reply p)
reply_at (InDeliveries q done p) = option_map ((among_ten q done).answer) (district_reply p)
reply_at (DeliveriesEnd done) = Some (reply.Deliveries done)
reply_at (InRename q p) = renamed_reply q p

-- the program has come to its end with this reply
pub record IsReady (s : EngineState) (x : Handle) (q : Request) (p : Position) (y : Reply) : Type 0 where
  pub is_open : IsOpen s x
  pub free : IsFreeHere s x q p
  pub does : act_here s x q p ≡ Ready y

-- the stage ends its transaction with this refusal: it stops before its lock, it fails, or the tables don't accept its
-- change
abbrev pub Ends : EngineState → Handle → Request → Position → Refusal → Type 0
Ends s x q p e =
    (ask_here s x q p ≡ Stop e)
    ⊎ (IsFreeHere s x q p × (act_here s x q p ≡ Fail e))
    ⊎ (IsFreeHere s x q p × (c : Change) × (p' : Position) × (act_here s x q p ≡ Go (Some c) p')
    × Cause c (view_of s).rows e)

-- the stage makes a change whose undo record has no room
abbrev pub IsFullHere : EngineState → Handle → Request → Position → Type 0
IsFullHere s x q p = (c : Change) × (p' : Position) × (act_here s x q p ≡ Go (Some c) p')
    × IsFullFor (view_of s) x.terminal c

-- memory is wanted for its change: it is an insert at a key without a place, or gives a customer another last name
abbrev pub WantsMemory : EngineState → Handle → Request → Position → Type 0
WantsMemory s x q p = (c : Change) × (p' : Position) × (act_here s x q p ≡ Go (Some c) p')
    × WantsPlace (Some c) s.tables

-- why a stage was refused
abbrev pub IsStageRefusal : EngineState → Handle → Request → Position → Refusal → Type 0
IsStageRefusal s x q p NotOpen = IsOpen s x → ⊥
IsStageRefusal s x q p (Busy n u) = IsOpen s x
    × ((m : theory.Mode) × (ask_here s x q p ≡ Take n m) × IsInTheWay (view_of s) x.terminal n m u)
IsStageRefusal s x q p UndoFull = IsOpen s x × IsFreeHere s x q p × IsFullHere s x q p
IsStageRefusal s x q p NoMemory =
    IsOpen s x × IsFreeHere s x q p
    × (IsNew system ((view_of s).held x.terminal) (ask_here s x q p) ⊎ WantsMemory s x q p)
    × GivesWay system (yields p) (act_here s x q p)
IsStageRefusal s x q p e = IsOpen s x × Ends s x q p e

-- one stage of a program that carries out this request, from a position and an engine to a position and an engine
abbrev pub Progresses : Request → Handle → EngineState → Position → Progress → EngineState → Position → Type 0
Progresses q x s p progress.More s' p' = GoesOn s x q p s' p'
Progresses q x s p progress.Ready s' p' = ((y : Reply) × IsReady s x q p y) × (s' ≡ s) × (p' ≡ p)
Progresses q x s p (progress.Refused e) s' p' = IsStageRefusal s x q p e × (view_of s' ≡ view_of s) × (s'.name ≡ s.name)
    × (p' ≡ p)
