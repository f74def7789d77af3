-- Whether lines tell the replies that what they ask for has, one after another in this order.
use Rattle.std.specs.Prelude.{◌≡◌, ◌≢◌, ℕ, ◌+◌, ◌≤◌, All, Option, Result, Ok, Err, List, [], ◌∷◌, ◌++◌, length}
use Rattle.std.specs.Prelude.{codes, decimal}
use Rattle.oe_rows.specs.declared.scales.Scale.{Scale}
use Rattle.oe_model.specs.Rows.{Rows}
use Rattle.oe_model.specs.Conditions.{IsPopulation}
use Rattle.oe_model.specs.Population.{IsPopulated}
use Rattle.oe_model.specs.System.{system}
use Rattle.oe_io.specs.Ports.{Sink, Sent, Cut}
use Rattle.oe_store.specs.Places.{rows}
use Rattle.oe_file_serial.specs.InOrder.{Between, at_first}
use Rattle.oe_file_serial.specs.declared.lines.Asked.{Asked}
use Rattle.oe_file_serial.specs.Answers.{Answers}
use Rattle.oe_reply_words.specs.Others.{other_line}
use Rattle.oe_file_serial.specs.Changes.{IsHint}
use Rattle.oe_reply_words.specs.declared.rows.Change.{Change}
use Rattle.oe_file_serial.specs.Files.{Tells, IsTold, Opens, OpensRing, lines_of, last_of, AreBad, Shows}
use Rattle.oe_file_serial.specs.declared.origins.Opening.{Opening}
use Rattle.oe_file_serial.specs.declared.origins.Opening.TheVariants as opening
use Rattle.oe_file_serial.specs.declared.origins.Origin.{Origin}
use Rattle.oe_file_serial.specs.declared.origins.Origin.TheVariants as origin
use Rattle.oe_file_serial.specs.declared.reasons.BadLine.{BadLine}
use Rattle.oe_file_serial.specs.declared.verdicts.Verdict.{Verdict}
use Rattle.oe_file_serial.specs.declared.verdicts.Verdict.TheVariants as verdict
use Rattle.oe_file_serial.specs.declared.verdicts.Decision.{Decision}
use Rattle.oe_file_serial.specs.declared.verdicts.Decision.TheVariants as decision
use Rattle.oe_file_serial.specs.declared.reports.SerialFault.{SerialFault}
use Rattle.oe_file_serial.specs.declared.reports.SerialFault.TheVariants as fault

-- what the line asks for is answered as it tells
abbrev pub Agrees : Between system → List ℕ → Between system → Type 0
Agrees b line b' = (a : Asked) × (text : List ℕ) × Tells line a text × Answers b a text b'

-- lines agree, one after another
abbrev pub AreSerial : Between system → List (List ℕ) → Between system → Type 0
AreSerial b [] b' = b' ≡ b
AreSerial b (line ∷ lines) b' = (mid : Between system) × Agrees b line mid × AreSerial mid lines b'

-- it tells `theirs`, and is answered another text, `ours`
abbrev pub Differs : Between system → List ℕ → List ℕ → List ℕ → Type 0
Differs b line theirs ours =
    (a : Asked) × (b' : Between system) × Tells line a theirs × Answers b a ours b' × (theirs ≢ ours)

-- the lines before one agree, and that one, of this number, does not; the opening is line 1. The last change, by the
-- lines before it, is that of the row that its first word which differs tells of.
pub record IsFirstOther (b : Between system) (lines : List (List ℕ)) (number : ℕ) (theirs ours : List ℕ)
    (last : Option Change) : Type 0 where
  pub before : List (List ℕ)
  pub line : List ℕ
  pub behind : List (List ℕ)
  pub mid : Between system
  pub lines_are : lines ≡ before ++ line ∷ behind
  pub number_is : number ≡ length before + 2
  pub agree : AreSerial b before mid
  pub differs : Differs mid line theirs ours
  pub hint : IsHint before line ours last

-- all n lines agree, and end there; or one is the first that does not agree
abbrev pub IsVerdict : Between system → List (List ℕ) → Verdict → List ℕ → Between system → Type 0
IsVerdict b lines (verdict.Serial n) ours end = AreSerial b lines end × (n ≡ length lines)
IsVerdict b lines (verdict.Differs number theirs last) ours end =
    IsFirstOther b lines number theirs.now ours last
IsVerdict b lines (verdict.Unreadable bad) ours end = ⊥

-- what the first line of a file opens, by what the file begins from
abbrev pub opening_of : Origin → Opening
opening_of origin.Population = opening.OfScale
opening_of (origin.Tables t) = opening.OfRing

-- what a file begins from may be opened
abbrev pub IsOrigin : Origin → Type 0
IsOrigin origin.Population = Unit {0}
IsOrigin (origin.Tables t) = IsPopulation (rows t)

-- the first line opens these tables: the population of its scale, or those that are there
abbrev pub Begins : Origin → List ℕ → Rows → Type 0
Begins origin.Population line r = (s : Scale) × Opens line s × IsPopulated s r
Begins (origin.Tables t) line r = OpensRing line × (r ≡ rows t)

-- the file's first line opens tables, each of its other lines tells of a reply, and this is the verdict on them from
-- these tables
pub record IsOfFile (o : Origin) (input : List ℕ) (v : Verdict) (ours : List ℕ) (end : Between system) : Type 0 where
  pub opening : List ℕ
  pub lines : List (List ℕ)
  pub base : Rows
  pub lines_are : lines_of input ≡ opening ∷ lines
  pub ended : last_of input ≡ []
  pub begins : Begins o opening base
  pub told : All IsTold lines
  pub is_verdict : IsVerdict (at_first system base) lines v ours end

-- that; or the lines that have no form
abbrev pub EndsSo : Origin → List ℕ → Verdict → List ℕ → Between system → Type 0
EndsSo o input (verdict.Serial n) ours end = IsOfFile o input (verdict.Serial n) ours end
EndsSo o input (verdict.Differs number theirs last) ours end =
    IsOfFile o input (verdict.Differs number theirs last) ours end
EndsSo o input (verdict.Unreadable shown) ours end =
    (bad : List BadLine) × AreBad (opening_of o) input bad × (bad ≢ []) × Shows shown bad

abbrev pub IsDecided : Origin → List ℕ → Verdict → List ℕ → Type 0
IsDecided o input v ours = (end : Between system) × EndsSo o input v ours end

-- a decision is a verdict, with the tables at the end where that is serial
abbrev pub verdict_of : Decision → Verdict
verdict_of (decision.Serial n tables) = verdict.Serial n
verdict_of (decision.Differs number theirs last) = verdict.Differs number theirs last
verdict_of (decision.Unreadable bad) = verdict.Unreadable bad

abbrev pub Leaves : Decision → Between system → Type 0
Leaves (decision.Serial n tables) end = rows tables ≡ end.rows
Leaves (decision.Differs number theirs last) end = Unit {0}
Leaves (decision.Unreadable bad) end = Unit {0}

abbrev pub IsDecision : Origin → List ℕ → Decision → List ℕ → Type 0
IsDecision o input d ours = (end : Between system) × EndsSo o input (verdict_of d) ours end × Leaves d end

-- WHAT IS WRITTEN

abbrev pub serial_line : ℕ → List ℕ
serial_line n = codes "serial " ++ decimal n ++ codes "\n"

-- line <number>: "<theirs>", in this order "<ours>"
abbrev pub differs_line : ℕ → List ℕ → List ℕ → List ℕ
differs_line number theirs ours =
    codes "line " ++ decimal number ++ codes ": \"" ++ theirs ++ codes "\", in this order \"" ++ ours ++ codes "\"\n"

abbrev pub verdict_text : Verdict → List ℕ → List ℕ
verdict_text (verdict.Serial n) ours = serial_line n
verdict_text (verdict.Differs number theirs last) ours =
    differs_line number theirs.now ours ++ other_line number theirs.now ours last
verdict_text (verdict.Unreadable bad) ours = []

abbrev pub status_of : Verdict → ℕ
status_of (verdict.Serial n) = 0
status_of (verdict.Differs number theirs last) = 1
status_of (verdict.Unreadable bad) = 2

-- the text that a line tells is no longer than a line
abbrev pub IsShort : Verdict → Type 0
IsShort (verdict.Serial n) = Unit {0}
IsShort (verdict.Differs number theirs last) = length theirs.now ≤ 1_024
IsShort (verdict.Unreadable bad) = Unit {0}

-- The file is decided, and the verdict written; nothing was decided or written, for want of memory or extents; or a
-- beginning of the verdict was.
abbrev pub SerialRan : Origin → List ℕ → Option Sink → Option Sink → Result Verdict SerialFault → Type 0
SerialRan o input old new (Ok v) = (ours : List ℕ) × IsDecided o input v ours × Sent old [] new [] (verdict_text v ours)
SerialRan o input old new (Err (fault.Short s)) = new ≡ old
SerialRan o input old new (Err fault.Write) =
    (v : Verdict) × (ours : List ℕ) × IsDecided o input v ours × Cut old [] new (verdict_text v ours)
