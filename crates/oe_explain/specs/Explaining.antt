-- What is said of the lines that are answered `BadLine`.
use Rattle.std.specs.Prelude.{◌≡◌, ℕ, ◌≤◌, Bool, true, false, List, [], ◌∷◌, ◌++◌, Option, codes, decimal, length}
use Rattle.oe_lines.specs.declared.commands.Command.{Command}
use Rattle.oe_io.specs.Ports.{Sink, Sent, Cut}
use Rattle.oe_reasons.specs.declared.reasons.Reason.{Reason}
use Rattle.oe_reasons.specs.Reasons.{IsReason, IsTaken}
use Rattle.oe_reasons.specs.Texts.{reason_text}
use Rattle.oe_script.specs.declared.listeners.Place.{Place}
use Rattle.oe_script.specs.declared.listeners.Place.TheVariants as place
use Rattle.oe_script.specs.Hearing.{Heard}

-- while something is open, or nothing, the line is taken for no command
abbrev pub IsUntaken : Bool → List ℕ → Type 0
IsUntaken is_open line = (length line ≤ 1_024) × ((c : Command) → IsTaken is_open line c → ⊥)

-- a reason that is true of the line, as text
abbrev pub IsLineWhy : Bool → List ℕ → List ℕ → Type 0
IsLineWhy is_open line why = (r : Reason) × IsReason is_open line r × (why ≡ reason_text line r)

abbrev pub IsWhy : Place → List ℕ → List ℕ → Type 0
IsWhy place.Closed line why = IsLineWhy false line why
IsWhy place.Open line why = IsLineWhy true line why
IsWhy place.Long line why = why ≡ codes "it has more than 1024 bytes"
IsWhy place.Unended line why = why ≡ codes "it is the last, and does not end in LF"

-- the line that is said of a line
abbrev pub Explains : Heard → List ℕ → Type 0
Explains x said = (why : List ℕ) × IsWhy x.place x.line why
    × (said ≡ codes "line " ++ decimal x.number ++ codes ": " ++ why ++ codes "\n")

-- a line for each, in their order
abbrev pub ExplainsEach : List Heard → List ℕ → Type 0
ExplainsEach [] said = said ≡ []
ExplainsEach (x ∷ xs) said = (first : List ℕ) × (rest : List ℕ) × Explains x first × ExplainsEach xs rest
    × (said ≡ first ++ rest)

-- of one line: what is said is written, or a front of it where the output fails; then nothing more is said
abbrev pub SaysOne : Bool → Bool → Option Sink → Option Sink → Heard → Type 0
SaysOne true failed old new x = (failed ≡ true) × (new ≡ old)
SaysOne false false old new x = (said : List ℕ) × Explains x said × Sent old [] new [] said
SaysOne false true old new x = (said : List ℕ) × Explains x said × Cut old [] new said

-- of all lines: a line for each is written, or a front of the lines for the first of them where the output failed
abbrev pub Said : Bool → Option Sink → Option Sink → List Heard → Type 0
Said false old new told = (said : List ℕ) × ExplainsEach told said × Sent old [] new [] said
Said true old new told = (front : List Heard) × (rest : List Heard) × (said : List ℕ) × (told ≡ front ++ rest)
    × ExplainsEach front said × Cut old [] new said
