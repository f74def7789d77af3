-- What an open transaction carries out, in the words of the model.
use Rattle.std.specs.Prelude.{◌≡◌, ℕ, cond}
use Rattle.oe_requests.specs.declared.requests.Request.{Request}
use Rattle.oe_requests.specs.declared.requests.Request.TheVariants as request
use Rattle.oe_model.specs.Positions.{Position, InPayment, InNewOrder, InDelivery, InRename}
use Rattle.oe_model.specs.System.{locks_before, start_of, marks}
use Rattle.oe_engine.specs.View.{EngineState, view_of, Handle}
use Rattle.oe_engine.specs.Programs.{tx_of}
use Rattle.oe_engine.specs.declared.programs.Progress.{Progress}
use Rattle.oe_engine.specs.declared.programs.Progress.TheVariants as progress
use Rattle.oe_engine.specs.Stages.{HoldsAll}
use Rattle.oe_delivery.specs.Program as delivery
use Rattle.oe_delivery.specs.Deliveries.{place_of}
use Rattle.oe_neworder.specs.Program as neworder
use Rattle.oe_rename.specs.Program as rename
use Rattle.oe_core.specs.declared.works.Task.{Task}
use Rattle.oe_core.specs.declared.works.Task.TheVariants as task

-- a request, the row that its program comes to next, and the mark: another position, with the number of records there
pub record WorkState : Type 0 where
  pub request : Request
  pub position : Position
  pub mark : Position
  pub mark_records : ℕ

abbrev pub state_of : Task → ℕ → WorkState
state_of (task.Payment q p m) n =
    record { request = request.Payment q; position = InPayment q p; mark = InPayment q m; mark_records = n }
state_of (task.NewOrder q p m) n =
    record {
      request = request.NewOrder q;
      position = InNewOrder q (neworder.position_of q p);
      mark = InNewOrder q (neworder.position_of q m);
      mark_records = n;
    }
state_of (task.Delivery q p m) n =
    record {
      request = request.Delivery q;
      position = InDelivery q (delivery.position_of p);
      mark = InDelivery q (delivery.position_of m);
      mark_records = n;
    }
state_of (task.Deliveries q p m) n =
    record { request = request.Deliveries q; position = place_of q p; mark = place_of q m; mark_records = n }
state_of (task.Rename q p m) n =
    record {
      request = request.Rename q;
      position = InRename q (rename.position_of p);
      mark = InRename q (rename.position_of m);
      mark_records = n;
    }

-- work for a request whose transaction has just begun: the program and the mark stand at its first row
abbrev pub work_at_begin : Request → WorkState
work_at_begin q = record { request = q; position = start_of q; mark = start_of q; mark_records = 0 }

-- the names that are taken on the way to that row are held
abbrev pub HoldsTaken : EngineState → Handle → Request → Position → Type 0
HoldsTaken s x q p = HoldsAll (view_of s) x.terminal (locks_before (tx_of s x q) p)

-- and where a rename holds the old last name, it is still the customer's
abbrev pub Recalls : EngineState → Position → Type 0
Recalls s (InRename q p) = rename.Recalls q s p
Recalls s _ = Unit {0}

-- after a stage that went on to this position, where n records stood before it: where the stage moves the mark, the
-- mark is where the program stood
abbrev pub work_after_stage : ℕ → WorkState → Position → WorkState
work_after_stage n w p =
    record w {
      position = p;
      mark = cond (marks w.position) w.position w.mark;
      mark_records = cond (marks w.position) n w.mark_records;
    }

-- what a stage leaves, where n records stood before it: a refused one leaves all as it was
abbrev pub Leaves : ℕ → WorkState → Progress → WorkState → Type 0
Leaves n w progress.More w' = w' ≡ work_after_stage n w w'.position
Leaves n w progress.Ready w' = w' ≡ w
Leaves n w (progress.Refused e) w' = w' ≡ w
