-- How a command ends, and what it tells on standard error.
use Rattle.std.specs.Prelude.{◌≡◌, ◌≢◌, ◌⊎◌, ℕ, List, [], Option, None, Some, Result, IfOk}
use Rattle.std.specs.IoError.{error_kind}
use Rattle.std.specs.declared.io.Error.{Error}
use Rattle.std.specs.declared.io.ErrorKind.TheVariants as kind
use Rattle.oe_io.specs.Ports.{Sink, Sent, Cut}
use Rattle.oe_answers.specs.declared.endings.Aim.{Aim}
use Rattle.oe_answers.specs.declared.endings.Aim.TheVariants as aim

-- the status of a fault: 3 where 1 is that of what was judged and fails
abbrev pub fault_status : Aim → ℕ
fault_status aim.Answers = 1
fault_status aim.Judges = 3

-- The status, where there is one: where a line of standard error could not be written there is none.
abbrev pub EndsWith : {E : Type 0} → ℕ → Result ℕ E → Type 0
EndsWith n result = IfOk result (λ status. status ≡ n)

-- nothing was told; or this text, or a beginning of it where a write failed
abbrev pub Told : Option Sink → Option Sink → Option (List ℕ) → Type 0
Told old new None = new ≡ old
Told old new (Some text) = Sent old [] new [] text ⊎ Cut old [] new text

-- A command came to an answer, and ended with the status that goes with it.
abbrev pub Comes : {T F E : Type 0} → (Result T F → Type 0) → (Result T F → ℕ) → Result ℕ E → Type 0
Comes {T} {F} Is status result = (answer : Result T F) × Is answer × EndsWith (status answer) result

-- It came to an answer, told what there is to tell of it, and ended so.
abbrev pub Tells : {T F E : Type 0} → (Result T F → Type 0) → (Result T F → ℕ) → (Result T F → Option (List ℕ))
    → Option Sink → Option Sink → Result ℕ E → Type 0
Tells {T} {F} Is status note old new result =
    (answer : Result T F) × Is answer × Told old new (note answer) × EndsWith (status answer) result

-- a file that a judgement needs can't be read: that is no judgement, and a want of memory is a fault
abbrev pub EndsUnread : {E : Type 0} → Error → Result ℕ E → Type 0
EndsUnread cause result =
    (error_kind cause ≡ kind.OutOfMemory → EndsWith 3 result)
    × (error_kind cause ≢ kind.OutOfMemory → EndsWith 2 result)
