-- What a listener hears of: the lines that are answered `BadLine`, in order, each once.
use Rattle.std.specs.Prelude.{◌≡◌, ℕ, ◌+◌, ◌≤◌, ◌<◌, ◌⊎◌, Bool, true, false, List, [], ◌∷◌, ◌++◌, length, Some, None}
use Rattle.std.specs.Prelude.{Result, MatchResult}
use Rattle.oe_theory.specs.World.{World}
use Rattle.oe_model.specs.System.{system}
use Rattle.oe_lines.specs.declared.commands.Command.{Command}
use Rattle.oe_script.specs.declared.listeners.Place.{Place}
use Rattle.oe_script.specs.declared.listeners.Place.TheVariants as place
use Rattle.oe_script.specs.Script.{State, Asks, RunOfLines, Output, Reached}

-- a line that is answered `BadLine`: its number, its bytes where it is whole, and where it stands
pub record Heard : Type 0 where
  pub number : ℕ
  pub line : List ℕ
  pub place : Place

-- where a whole line stands
abbrev pub place_of : State → Place
place_of None = place.Closed
place_of (Some w) = place.Open

-- the line is a command here, or it is none
abbrev pub Takes : Bool → State → List ℕ → Type 0
Takes true s line = (c : Command) × Asks s line c
Takes false s line = (c : Command) → Asks s line c → ⊥

-- a line that is no command where it stands
abbrev pub IsBad : Place → List ℕ → Type 0
IsBad place.Closed line = (length line ≤ 1_024) × ((c : Command) → Asks None line c → ⊥)
IsBad place.Open line = (length line ≤ 1_024) × ((c : Command) → ((w : World system) → Asks (Some w) line c) → ⊥)
IsBad place.Long line = Unit {0}
IsBad place.Unended line = Unit {0}

-- what is heard of the n-th line: nothing where it is a command; where it is too long, not its bytes
abbrev pub HearsLine : State → ℕ → List ℕ → List Heard → Type 0
HearsLine s n line told =
    (Takes true s line × (told ≡ []))
    ⊎ (Takes false s line × (length line ≤ 1_024)
    × (told ≡ record { number = n; line = line; place = place_of s } ∷ []))
    ⊎ ((1_024 < length line) × (told ≡ record { number = n; line = []; place = place.Long } ∷ []))

-- what is heard of lines that were answered so, where n came before
abbrev pub HearsRun : (s : State) (n : ℕ) (lines : List (List ℕ)) (text : List ℕ) (s' : State)
    → RunOfLines s n lines text s' → List Heard → Type 0
HearsRun s n [] text s' r told = told ≡ []
HearsRun s n (line ∷ lines) text s' r told =
    (first : List Heard) × (rest : List Heard) × HearsLine s (n + 1) line first
    × HearsRun r.0 (n + 1) lines r.2 s' r.4 rest × (told ≡ first ++ rest)

-- what is heard of the lines that were answered so far
abbrev pub HearsReached : (begun : State) (input out : List ℕ) (s : State) (n : ℕ) (line : List ℕ)
    → Reached begun input out s n line → List Heard → Type 0
HearsReached begun input out s n line r told = HearsRun begun 0 r.lines out s r.run told

-- what is heard of a last line without its end
abbrev pub last_heard : ℕ → List ℕ → List Heard
last_heard n [] = []
last_heard n (b ∷ bs) = record { number = n; line = []; place = place.Unended } ∷ []

-- what is heard of an input that was answered so
abbrev pub HearsAll : (begun : State) (input out : List ℕ) → Output begun input out → List Heard → Type 0
HearsAll begun input out o told =
    (first : List Heard) × HearsRun begun 0 o.lines o.answers o.state o.run first
    × (told ≡ first ++ last_heard (length o.lines + 1) o.last)

-- a listener becomes another by hearing of each of these lines in turn
abbrev pub HearsEach : {L : Type 0} → (L → Heard → L → Type 0) → L → List Heard → L → Type 0
HearsEach hears l [] l' = l' ≡ l
HearsEach {L = L} hears l (x ∷ xs) l' = (mid : L) × hears l x mid × HearsEach hears mid xs l'

-- the listener heard of a line what there is to hear, or nothing where a write failed
abbrev pub Attends : {L T E : Type 0} → (L → Heard → L → Type 0) → State → ℕ → List ℕ → L → L → Result T E → Type 0
Attends hears s n line l l' r = MatchResult r
    (λ _. (told : List Heard) × HearsLine s n line told × HearsEach hears l told l') (λ _. l' ≡ l)

-- of a front of the input the lines were answered, and this is known of what is heard of them
pub record HeardFront (begun : State) (input : List ℕ) (IsKnown : List Heard → Type 0) : Type 0 where
  pub front : List ℕ
  pub rest : List ℕ
  pub out : List ℕ
  pub state : State
  pub count : ℕ
  pub line : List ℕ
  pub told : List Heard
  pub whole : input ≡ front ++ rest
  pub reached : Reached begun front out state count line
  pub heard : HearsReached begun front out state count line reached told
  pub known : IsKnown told
