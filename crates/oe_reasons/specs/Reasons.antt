-- Why a line is none that is taken where it stands.
use Rattle.std.specs.Prelude.{◌≡◌, ℕ, ◌+◌, ◌-◌, ◌<◌, ◌≤◌, Bool, true, false, not, List, length, slice_index}
use Rattle.std.specs.Prelude.{Some, None, [], is_some, codes, position, nat_lt, ◌||◌}
use Rattle.std.specs.Option.{option_map}
use Rattle.oe_values.specs.Front.{after_of}
use Rattle.oe_lines.specs.declared.commands.Command.{Command}
use Rattle.oe_lines.specs.declared.commands.Command.TheVariants as command
use Rattle.oe_lines.specs.Grammar.{Says}
use Rattle.oe_reasons.specs.declared.verbs.Verb.{Verb}
use Rattle.oe_reasons.specs.declared.reasons.Reason.{Reason}
use Rattle.oe_reasons.specs.declared.reasons.Reason.TheVariants as reason
use Rattle.oe_reasons.specs.declared.forms.Form.{Form}
use Rattle.oe_reasons.specs.Columns.{first_word, form_of, IsMiscounted, IsWrong}
use Rattle.oe_reasons.specs.Verbs.{near_of, verb_of}

-- `open` is taken while nothing is open, and every other line once something is
abbrev pub is_opening : Command → Bool
is_opening (command.Open s e) = true
is_opening c = false

-- a line that is taken for a command, while something is open or nothing
pub record IsTaken (is_open : Bool) (line : List ℕ) (c : Command) : Type 0 where
  pub short : length line ≤ 1_024
  pub says : Says line c
  pub placed : is_opening c ≡ not is_open

-- no printable ASCII character, which are the bytes 32 to 126
abbrev pub is_unprintable : ℕ → Bool
is_unprintable b = nat_lt b 32 || nat_lt 126 b

-- by its verb and its third word the line has to be of this form
abbrev pub IsOf : List ℕ → Form → Type 0
IsOf line f = (v : Verb) × (verb_of (first_word line) ≡ Some v) × (form_of v line ≡ Some f)

-- the reason is true of the line
abbrev pub IsReason : Bool → List ℕ → Reason → Type 0
IsReason is_open line reason.Long = 1_024 < length line
IsReason is_open line reason.CarriageReturn = slice_index line (length line - 1) ≡ 13
IsReason is_open line (reason.Unprintable n) = option_map (λ k. k + 1) (position is_unprintable line) ≡ Some n
IsReason is_open line reason.LastBlank = slice_index line (length line - 1) ≡ 32
IsReason is_open line reason.NoWord = first_word line ≡ []
IsReason is_open line reason.NoAudit = is_some (after_of (codes "audit 11 ") line) ≡ true
IsReason is_open line reason.AlreadyOpen = (is_open ≡ true) × (c : Command) × Says line c × (is_opening c ≡ true)
IsReason is_open line reason.NotOpen = (is_open ≡ false) × (c : Command) × Says line c × (is_opening c ≡ false)
IsReason is_open line (reason.NoVerb near) = (verb_of (first_word line) ≡ None) × (near ≡ near_of (first_word line))
IsReason is_open line (reason.Miscounted f) = IsOf line f × IsMiscounted line f
IsReason is_open line (reason.Wrong w) = (f : Form) × IsOf line f × IsWrong line f w
IsReason is_open line (reason.NotSo verb) =
    (verb_of (first_word line) ≡ Some verb) × ((c : Command) → Says line c → ⊥)
