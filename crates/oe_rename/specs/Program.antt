-- What a rename's program stands for, and a stage of it on an engine.
use Rattle.std.specs.Prelude.{◌≡◌, Result, Ok, Err}
use Rattle.oe_requests.specs.declared.requests.RenameRequest.{RenameRequest}
use Rattle.oe_requests.specs.declared.requests.Request.TheVariants as request
use Rattle.oe_requests.specs.declared.refusals.Refusal.{Refusal}
use Rattle.oe_model.specs.Positions.{RenamePosition, RenameCustomer, RenameOld, RenameNew, RenameEnd, InRename}
use Rattle.oe_model.specs.Rename.{HasLast, rename_taken}
use Rattle.oe_engine.specs.View.{EngineState, view_of, Handle}
use Rattle.oe_engine.specs.Stages.{HoldsAll}
use Rattle.oe_engine.specs.Programs.{GoesOn, IsStageRefusal}
use Rattle.oe_rename.specs.declared.programs.Program.{Program}
use Rattle.oe_rename.specs.declared.programs.Program.TheVariants as program

-- the position of the model
abbrev pub position_of : Program → RenamePosition
position_of program.Customer = RenameCustomer
position_of (program.OldName last) = RenameOld last
position_of (program.NewName last) = RenameNew last
position_of (program.End last) = RenameEnd last

-- all its stages are done
abbrev pub HasEnded : Program → Type 0
HasEnded (program.End last) = Unit {0}
HasEnded _ = ⊥

-- the names that are taken on the way to this position are held
abbrev pub HoldsTaken : RenameRequest → Handle → EngineState → RenamePosition → Type 0
HoldsTaken q x s p = HoldsAll (view_of s) x.terminal (rename_taken q p)

-- where the old last name is held, it is still the customer's
abbrev pub Recalls : RenameRequest → EngineState → RenamePosition → Type 0
Recalls q s (RenameNew last) = HasLast q.customer last (view_of s).rows
Recalls q s _ = Unit {0}

-- a stage: the program after it, or its refusal
abbrev pub Steps : RenameRequest → Handle → EngineState → RenamePosition → Result Program Refusal → EngineState → Type 0
Steps q x s p (Ok p') s' = GoesOn s x (request.Rename q) (InRename q p) s' (InRename q (position_of p'))
Steps q x s p (Err e) s' = IsStageRefusal s x (request.Rename q) (InRename q p) e × (view_of s' ≡ view_of s)
    × (s'.name ≡ s.name)
