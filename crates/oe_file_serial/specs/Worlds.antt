-- Worlds of a machine in which one transaction runs at a time.
use Rattle.std.specs.Prelude.{◌≡◌, ℕ, List, ◌++◌, Option, None, Some, codes, decimal}
use Rattle.oe_theory.specs.World.{World}
use Rattle.oe_theory.specs.Next.{IsQuiet}
use Rattle.oe_requests.specs.declared.requests.Request.{Request}
use Rattle.oe_requests.specs.declared.replies.Reply.{Reply}
use Rattle.oe_requests.specs.declared.refusals.Refusal.{Refusal}
use Rattle.oe_requests.specs.declared.refusals.Refusal.TheVariants as refusal
use Rattle.oe_model.specs.System.{system}
use Rattle.oe_machine.specs.declared.advances.Advanced.{Advanced}
use Rattle.oe_machine.specs.declared.advances.Advanced.TheVariants as advanced
use Rattle.oe_admission.specs.Programs.{IsLive}
use Rattle.oe_file_serial.specs.InOrder.{Between, Commits, Refuses, between, HasOpen}
use Rattle.oe_file_serial.specs.declared.lines.Asked.{Asked}
use Rattle.oe_file_serial.specs.Answers.{Answers}
use Rattle.oe_file_serial.specs.declared.verdicts.Shortage.{Shortage}
use Rattle.oe_file_serial.specs.declared.verdicts.Shortage.TheVariants as shortage

-- steps led there, and nothing is open
pub record IsFree (w : World system) : Type 0 where
  pub live : IsLive (Some w)
  pub quiet : IsQuiet system w

-- steps led there, and one transaction is open
pub record IsAtWork (b : Between system) (t : ℕ) (q : Request) (w : World system) : Type 0 where
  pub live : IsLive (Some w)
  pub open_alone : HasOpen system b t q w

-- what a transaction was refused for want of, where that is not its own refusal
abbrev pub shortage_of : Refusal → Option Shortage
shortage_of refusal.NoMemory = Some shortage.NoMemory
shortage_of refusal.UndoFull = Some shortage.UndoFull
shortage_of e = None

-- it is carried out to its end, alone
abbrev pub Ends : Between system → ℕ → Request → Advanced → Option Reply → World system → Type 0
Ends b t q advanced.More last w = ⊥
Ends b t q (advanced.Committed m) last w =
    (y : Reply) × (last ≡ Some y) × Commits system b t q y (between system w) × IsFree w
Ends b t q (advanced.Kept e) last w =
    shortage_of e ≡ None → Refuses system b t q e × (between system w ≡ b) × IsFree w
Ends b t q (advanced.RolledBack e) last w =
    shortage_of e ≡ None → Refuses system b t q e × (between system w ≡ b) × IsFree w

-- what is asked for is answered this text, alone
abbrev pub IsAnswered : Between system → Asked → List ℕ → World system → Type 0
IsAnswered b a text w = Answers b a text (between system w) × IsFree w

-- what stands before the reply in a commit's answer
abbrev pub commit_front : ℕ → List ℕ
commit_front m = codes "commit " ++ decimal m ++ codes " "
