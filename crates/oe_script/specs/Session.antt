-- A session between two bytes of its input, and how a script ends.
use Rattle.std.specs.Prelude.{◌≡◌, ℕ, ◌+◌, ◌^◌, ◌≤◌, ◌⊎◌, List, [], ◌++◌, length, ⊤, Option, Some, None}
use Rattle.std.specs.Prelude.{Result, Ok, Err, MatchResult}
use Rattle.oe_admission.specs.Programs.{IsLive}
use Rattle.oe_theory.specs.World.{World}
use Rattle.oe_model.specs.System.{system}
use Rattle.oe_script.specs.declared.session.Session.{Session}
use Rattle.oe_script.specs.declared.session.ScriptFault.{ScriptFault}
use Rattle.oe_script.specs.declared.session.ScriptFault.TheVariants.{Read, Write}
use Rattle.oe_filelines.specs.Lines.{Held}
use Rattle.oe_io.specs.Ports.{Source, Sink, Sent, Cut}
use Rattle.oe_script.specs.Script.{State, Output, Holds, Reached}
use Rattle.oe_script.specs.Hearing.{Heard, HearsAll, HearsEach, HearsReached, HeardFront}

-- the state that a session's machine stands for
abbrev pub state_of : {C : Type 0} → (C → World system) → Option C → State
state_of world None = None
state_of world (Some c) = Some (world c)

-- The session stands behind this input: what it has written or holds back is the output so far, and the listener heard
-- of its lines.
abbrev pub Standing : {L : Type 0} → State → (L → Heard → L → Type 0) → L → L → Option Sink → List ℕ → Option Sink
    → List ℕ
    → State → ℕ → Held → Type 0
Standing begun hears first last start input now waits state count held =
    (line : List ℕ) × (out : List ℕ) × (r : Reached begun input out state count line) × Holds held line
    × Sent start [] now waits out
    × (told : List Heard) × HearsReached begun input out state count line r told × HearsEach hears first told last

-- A call of the writer failed: what was written is a beginning of an output of the input, whatever more of it there is.
abbrev pub Broken : State → Option Sink → List ℕ → Option Sink → Type 0
Broken begun start input now = (more : List ℕ) → (out : List ℕ) × Output begun (input ++ more) out
    × Cut start [] now out

abbrev pub Fed : {L T E : Type 0} → State → (L → Heard → L → Type 0) → L → L → Option Sink → List ℕ → Option Sink
    → List ℕ
    → State → ℕ → Held → Result T E → Type 0
Fed begun hears first last start input now waits state count held r =
    MatchResult r (λ _. Standing begun hears first last start input now waits state count held)
    (λ _. Broken begun start input now × HeardFront begun input (λ told. HearsEach hears first told last))

-- A dialogue: what was open when it began, the listener then, and what had been written.
pub record Dialogue (L : Type 0) : Type 0 where
  pub begun : State
  pub live : IsLive begun
  pub first : L
  pub start : Option Sink

-- In a dialogue the session stands behind this input, with the listener and what is written as they are now.
abbrev pub StandsIn : {C L : Type 0} → Dialogue L → (C → World system) → (L → Heard → L → Type 0) → List ℕ → L →
    Option Sink → Session C
    → Type 0
StandsIn d world hears input last now s =
    Standing d.begun hears d.first last d.start input now s.out.items (state_of world s.core) s.count s.line

-- So it does once a call has ended well. Else a call of the writer failed: what was written is a beginning of an output
-- of the input, and the listener heard of some first lines.
abbrev pub FedIn : {C L T E : Type 0} → Dialogue L → (C → World system) → (L → Heard → L → Type 0) → List ℕ → L →
    Option Sink
    → Session C → Result T E → Type 0
FedIn d world hears input last now s r =
    Fed d.begun hears d.first last d.start input now s.out.items (state_of world s.core) s.count s.line r

-- The input is answered whole, all of it is written, and the listener heard of it.
abbrev pub Ended : {L T E : Type 0} → State → (L → Heard → L → Type 0) → L → L → Option Sink → List ℕ → Option Sink
    → Result T E → Type 0
Ended begun hears first last start input now r =
    MatchResult r
    (λ _. (out : List ℕ) × (o : Output begun input out) × Sent start [] now [] out
    × (told : List Heard) × HearsAll begun input out o told × HearsEach hears first told last)
    (λ _. (out : List ℕ) × Output begun input out × Cut start [] now out
    × HeardFront begun input (λ told. HearsEach hears first told last))

abbrev pub EndedIn : {L T E : Type 0} → Dialogue L → (L → Heard → L → Type 0) → List ℕ → L → Option Sink
    → Result T E → Type 0
EndedIn d hears input last now r = Ended d.begun hears d.first last d.start input now r

-- calls gave these bytes, no more calls than bytes, and none failed
abbrev pub ReadSoFar : Option Source → Option Source → List ℕ → ℕ → Type 0
ReadSoFar None now read calls = ⊤
ReadSoFar (Some a) None read calls = ⊥
ReadSoFar (Some a) (Some b) read calls = (a.remaining ≡ read ++ b.remaining) × (b.failures ≡ a.failures)
    × (calls ≤ length read)

-- what was written is a beginning of an output of all that was read
pub record Began (begun : State) (a b : Source) (c d : Sink) : Type 0 where
  pub read : List ℕ
  pub out : List ℕ
  pub more : List ℕ
  pub were_read : a.remaining ≡ read ++ b.remaining
  pub output : Output begun read out
  pub written : d.contents ++ more ≡ c.contents ++ out

-- Each whole line that was read is answered, and nothing else was written.
pub record Answered (begun : State) (a b : Source) (c d : Sink) : Type 0 where
  pub read : List ℕ
  pub answers : List ℕ
  pub state : State
  pub count : ℕ
  pub line : List ℕ
  pub were_read : a.remaining ≡ read ++ b.remaining
  pub reached : Reached begun read answers state count line
  pub written : d.contents ≡ c.contents ++ answers

-- one call of the reader failed; or none did, and the input has 2^64 - 1 bytes or more
abbrev pub ReadFailed : Source → Source → Type 0
ReadFailed a b = (b.failures ≡ a.failures + 1) ⊎ ((b.failures ≡ a.failures) × (2 ^ 64 ≤ length a.remaining + 1))

-- How a script ends, where reader and writer tell their bytes. Without a fault no call of theirs failed in this run,
-- all of the input is read, and an output of it is written. After a fault one call failed, of the reader or the writer
-- that it names, and none of the other; but an input of 2^64 - 1 bytes or more may end in a fault of the reader without
-- one. After a fault of the reader the whole lines are answered.
abbrev pub ScriptRan : State → Option Source → Option Source → Option Sink → Option Sink
    → Result (Unit {0}) ScriptFault → Type 0
ScriptRan begun (Some a) (Some b) (Some c) (Some d) (Ok x) =
    (b.failures ≡ a.failures) × (d.failures ≡ c.failures) × (b.remaining ≡ [])
    × (out : List ℕ) × Output begun a.remaining out × (d.contents ≡ c.contents ++ out)
ScriptRan begun (Some a) (Some b) (Some c) (Some d) (Err Read) = ReadFailed a b × (d.failures ≡ c.failures)
    × Answered begun a b c d
ScriptRan begun (Some a) (Some b) (Some c) (Some d) (Err Write) = (b.failures ≡ a.failures)
    × (d.failures ≡ c.failures + 1)
    × Began begun a b c d
ScriptRan begun (Some a) (Some b) (Some c) None r = ⊥
ScriptRan begun (Some a) None (Some c) d r = ⊥
ScriptRan begun (Some a) b None d r = ⊤
ScriptRan begun None b c d r = ⊤

-- So a script ends, and this is known of what is heard of it: of the whole input without a fault, of the whole lines
-- that were read after a fault of the reader, and of some first lines after one of the writer.
abbrev pub ScriptHeard : State → (List Heard → Type 0) → Option Source → Option Source → Option Sink → Option Sink
    → Result (Unit {0}) ScriptFault → Type 0
ScriptHeard begun IsKnown (Some a) (Some b) (Some c) (Some d) (Ok x) =
    (b.failures ≡ a.failures) × (d.failures ≡ c.failures) × (b.remaining ≡ [])
    × (out : List ℕ) × (o : Output begun a.remaining out) × (d.contents ≡ c.contents ++ out)
    × (told : List Heard) × HearsAll begun a.remaining out o told × IsKnown told
ScriptHeard begun IsKnown (Some a) (Some b) (Some c) (Some d) (Err Read) =
    ReadFailed a b × (d.failures ≡ c.failures) × (r : Answered begun a b c d)
    × (told : List Heard) × HearsReached begun r.read r.answers r.state r.count r.line r.reached told × IsKnown told
ScriptHeard begun IsKnown (Some a) (Some b) (Some c) (Some d) (Err Write) =
    (b.failures ≡ a.failures) × (d.failures ≡ c.failures + 1) × (r : Began begun a b c d)
    × HeardFront begun r.read IsKnown
ScriptHeard begun IsKnown (Some a) (Some b) (Some c) None r = ⊥
ScriptHeard begun IsKnown (Some a) None (Some c) d r = ⊥
ScriptHeard begun IsKnown (Some a) b None d r = ⊤
ScriptHeard begun IsKnown None b c d r = ⊤
