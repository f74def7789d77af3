-- The script of a load: lines in order, each of the terminal whose turn it is.
use Rattle.std.specs.Prelude.{◌≡◌, ℕ, ◌+◌, ◌≤◌, ◌<◌, ◌⊎◌, List, [], ◌∷◌, Option, is_some, false}
use Rattle.oe_theory.specs.World.{World, horizon, newest, bump, set}
use Rattle.oe_theory.specs.Next.{Next, Advance, Undo_full}
use Rattle.oe_theory.specs.Theorems.{world_at_opening}
use Rattle.oe_rows.specs.declared.layouts.Layout.TheVariants.{WholeRows}
use Rattle.oe_requests.specs.declared.requests.Request.{Request}
use Rattle.oe_requests.specs.declared.requests.Query.{Query}
use Rattle.oe_model.specs.Rows.{Rows}
use Rattle.oe_model.specs.System.{system}
use Rattle.oe_lines.specs.declared.commands.Command.{Command}
use Rattle.oe_lines.specs.declared.commands.Command.TheVariants as command
use Rattle.oe_lines.specs.declared.commands.MomentChoice.TheVariants as moment
use Rattle.rand_pcg.specs.Lcg.{Lcg}
use Rattle.oe_terms.specs.Draws.{random, words_of}
use Rattle.oe_busy.specs.declared.happenings.Happening.{Happening}
use Rattle.oe_terms.specs.declared.plans.Plan.{Plan}
use Rattle.oe_terms.specs.declared.plans.Asked.TheVariants as asked
use Rattle.oe_terms.specs.Plans.{asked_of}
use Rattle.oe_load.specs.declared.origins.Origin.{Origin}
use Rattle.oe_load.specs.declared.picks.Pick.{Pick}
use Rattle.oe_load.specs.declared.picks.Pick.TheVariants as pick
use Rattle.oe_load.specs.Loads.{Begins, Told, none_served}
use Rattle.oe_load.specs.Together.{Opens}
use Rattle.oe_load.specs.Happens.{Happens}
use Rattle.oe_load.specs.Picks.{none_named, named_by, pick_of, terminal_of}

-- Where a load stands between two lines: the world, what was served, how many of the first terminals have begun or have
-- no transaction, whom each terminal's last answer named where that was `Busy`, and what is drawn from.
pub record State : Type 0 where
  pub world : World system
  pub served : ℕ → ℕ
  pub begun : ℕ
  pub named : ℕ → Option ℕ
  pub words : Lcg

-- At first in a world. Turns are drawn by the words of terminal 64, which asks for nothing.
abbrev pub first_state : Plan → World system → State
first_state p w = record {
  world = w;
  served = none_served;
  begun = 0;
  named = none_named;
  words = words_of p.numbers.seed 64;
}

-- the number that is drawn, and the generator after it
abbrev pub draw : Plan → State → ℕ × Lcg
draw p s = random 1 p.numbers.terminals s.words

-- whose turn that number makes it
abbrev pub pick_in : Plan → State → Pick
pick_in p s = pick_of p s.world s.served s.named (draw p s).0

-- By which line a terminal takes its turn: it begins its next request, or is answered its query; or its transaction
-- goes on. Where that finds the ring full, commits are let go of, and where none is left it is rolled back. One that
-- gives way is rolled back.
pub data Does (p : Plan) (w : World system) (served : ℕ → ℕ) : Pick → Command → (ℕ → ℕ) → Type 0 where
  begins : (t : ℕ) (q : Request) → Does p w served (pick.Turn t) (command.Begin t q) served
  reads : (t : ℕ) (q : Query) → is_some (w.active t) ≡ false → asked_of p t (p.first + served t) ≡ asked.Query q
      → Does p w served (pick.Turn t) (command.Read moment.Now q) (bump t served)
  goes_on : (t : ℕ) (after : ℕ → ℕ) → Does p w served (pick.Turn t) (command.Next t) after
  purges : (t : ℕ) → Next system w (Advance t) Undo_full w → horizon system w < newest system w
      → Does p w served (pick.Turn t) (command.Purge moment.Now) served
  makes_room : (t : ℕ) → Next system w (Advance t) Undo_full w → newest system w ≤ horizon system w
      → Does p w served (pick.Turn t) (command.Rollback t) served
  gives_way : (t : ℕ) → Does p w served (pick.GiveWay t) (command.Rollback t) served

-- An early turn is that of the next terminal that has not begun. Nothing is drawn.
pub record IsEarlyTurn (p : Plan) (s : State) (c : Command) (t : State) : Type 0 where
  pub opens : Opens p s.begun s.served c t.served t.begun
  pub named_stay : t.named ≡ s.named
  pub words_stay : t.words ≡ s.words

-- Once all have begun, a turn is that of the terminal that a drawn number picks, and whom its answer names is noted.
pub record IsDrawnTurn (p : Plan) (s : State) (c : Command) (h : Happening) (t : State) : Type 0 where
  pub all : p.numbers.terminals ≤ s.begun
  pub does : Does p s.world s.served (pick_in p s) c t.served
  pub begun_stay : t.begun ≡ s.begun
  pub notes : t.named ≡ set (terminal_of (pick_in p s)) (named_by h) s.named
  pub draws : t.words ≡ (draw p s).1

-- a line of the terminal whose turn it is, at which this happened, and which leaves the last state
pub record IsTurn (p : Plan) (s : State) (c : Command) (h : Happening) (t : State) : Type 0 where
  pub told : Told p s.world s.served c t.world t.served
  pub happened : Happens s.world c t.world h
  pub in_turn : IsEarlyTurn p s c t ⊎ IsDrawnTurn p s c h t

-- Lines in order. So they are a function of the plan, of the first state, and of how many they are.
abbrev pub Lines : Plan → State → List Command → State → Type 0
Lines p s [] t = t ≡ s
Lines p s (c ∷ cs) t = (h : Happening) × (mid : State) × IsTurn p s c h mid × Lines p mid cs t

-- the same by what happened at each, the newest first
abbrev pub Course : Plan → State → List Happening → State → Type 0
Course p s [] t = t ≡ s
Course p s (h ∷ hs) t = (c : Command) × (mid : State) × Course p s hs mid × IsTurn p mid c h t

-- the lines behind the opening run on these tables, and leave this state
pub record IsScript (p : Plan) (o : Origin) (cs : List Command) (t : State) : Type 0 where
  pub base : Rows
  pub begun_on : Begins p o base
  pub lines : Lines p (first_state p (world_at_opening system base p.numbers.extents WholeRows)) cs t

-- this happened at the lines of a script behind its opening, which leave this state
pub record IsWatched (p : Plan) (o : Origin) (hs : List Happening) (t : State) : Type 0 where
  pub base : Rows
  pub begun_on : Begins p o base
  pub course : Course p (first_state p (world_at_opening system base p.numbers.extents WholeRows)) hs t
