-- What is written of a load.
use Rattle.std.specs.Prelude.{◌≡◌, ℕ, List, [], ◌⊎◌, Option, Result, Ok, Err}
use Rattle.oe_lines.specs.declared.commands.Command.{Command}
use Rattle.oe_io.specs.declared.ports.Failed.{Failed}
use Rattle.oe_io.specs.Ports.{Sink, Sent, Cut}
use Rattle.oe_numbers.specs.declared.forms.Form.{Form}
use Rattle.oe_numbers.specs.declared.forms.Form.TheVariants as load_form
use Rattle.oe_terms.specs.declared.plans.Plan.{Plan}
use Rattle.oe_load.specs.Loads.{IsDone, AreServed, none_served, script_text}
use Rattle.rand_pcg.specs.Lcg.{Lcg}
use Rattle.oe_terms.specs.Draws.{words_of}
use Rattle.oe_load.specs.declared.origins.Origin.{Origin}
use Rattle.oe_load.specs.Together.{HasTransactions, BeginTogether}
use Rattle.oe_busy.specs.declared.happenings.Happening.{Happening}
use Rattle.oe_busy.specs.Tables.{AreCounted, IsTable}
use Rattle.oe_busy.specs.declared.tables.Busyness.{Busyness}
use Rattle.oe_load.specs.declared.turns.Shortage.{Shortage}
use Rattle.oe_load.specs.Scripts.{State, IsScript, IsWatched}
use Rattle.oe_load.specs.Flats as flats
use Rattle.oe_load.specs.Flats.{InTurn, requests_text}
use Rattle.oe_load.specs.declared.loads.Ending.{Ending}
use Rattle.oe_load.specs.declared.loads.Ending.TheVariants as ending
use Rattle.oe_load.specs.declared.loads.LoadFault.{LoadFault}
use Rattle.oe_load.specs.declared.loads.LoadFault.TheVariants as fault

-- The text is a script as far as it was told; whole, where all requests are served. A whole one begins with all
-- terminals' first transactions, where each has one.
pub record IsBegun (p : Plan) (o : Origin) (text : List ℕ) : Type 0 where
  pub lines : List Command
  pub state : State
  pub script : IsScript p o lines state
  pub text_is : text ≡ script_text p o lines

pub record IsWhole (p : Plan) (o : Origin) (text : List ℕ) : Type 0 where
  pub lines : List Command
  pub state : State
  pub script : IsScript p o lines state
  pub done : IsDone p state.world state.served
  pub together : HasTransactions p → BeginTogether p lines
  pub text_is : text ≡ script_text p o lines

-- The same of the requests alone. Turns are drawn by the words of terminal 64, which asks for nothing.
pub record IsFlatBegun (p : Plan) (o : Origin) (text : List ℕ) : Type 0 where
  pub requests : List flats.Sent
  pub served : ℕ → ℕ
  pub words : Lcg
  pub in_turn : InTurn p none_served (words_of p.numbers.seed 64) requests served words
  pub text_is : text ≡ requests_text p o requests

pub record IsFlatWhole (p : Plan) (o : Origin) (text : List ℕ) : Type 0 where
  pub requests : List flats.Sent
  pub served : ℕ → ℕ
  pub words : Lcg
  pub in_turn : InTurn p none_served (words_of p.numbers.seed 64) requests served words
  pub all : AreServed p served
  pub text_is : text ≡ requests_text p o requests

-- The text is the table of what happened at the lines of a script as far as it was told; whole, where all requests are
-- served.
pub record IsBusyBegun (p : Plan) (o : Origin) (text : List ℕ) : Type 0 where
  pub happenings : List Happening
  pub state : State
  pub watched : IsWatched p o happenings state
  pub table : IsTable happenings text

pub record IsBusyWhole (p : Plan) (o : Origin) (text : List ℕ) : Type 0 where
  pub happenings : List Happening
  pub state : State
  pub watched : IsWatched p o happenings state
  pub done : IsDone p state.world state.served
  pub table : IsTable happenings text

-- the requests alone, a script, or a table
abbrev pub Begun : Plan → Origin → Form → List ℕ → Type 0
Begun p o load_form.Flat text = IsFlatBegun p o text
Begun p o load_form.Script text = IsBegun p o text
Begun p o load_form.Busy text = IsBusyBegun p o text

abbrev pub Whole : Plan → Origin → Form → List ℕ → Type 0
Whole p o load_form.Flat text = IsFlatWhole p o text
Whole p o load_form.Script text = IsWhole p o text
Whole p o load_form.Busy text = IsBusyWhole p o text

-- The whole load was written; it stops short, and what there is of it was written, or nothing was; or a write failed
-- behind a beginning of that.
abbrev pub LoadRan : Plan → Origin → Form → Option Sink → Option Sink → Result (Unit {0}) LoadFault → Type 0
LoadRan p o form old new (Ok x) = (text : List ℕ) × Whole p o form text × Sent old [] new [] text
LoadRan p o form old new (Err (fault.Short e)) =
    (text : List ℕ) × ((text ≡ []) ⊎ Begun p o form text) × Sent old [] new [] text
LoadRan p o form old new (Err fault.Write) =
    (text : List ℕ) × ((text ≡ []) ⊎ Begun p o form text) × Cut old [] new text

-- the same before what waits is written
abbrev pub Wrote : Plan → Origin → Form → Option Sink → Option Sink → List ℕ → Result Ending Failed → Type 0
Wrote p o form old new waits (Ok ending.Served) = (text : List ℕ) × Whole p o form text × Sent old [] new waits text
Wrote p o form old new waits (Ok (ending.Short e)) =
    (text : List ℕ) × ((text ≡ []) ⊎ Begun p o form text) × Sent old [] new waits text
Wrote p o form old new waits (Err e) =
    (text : List ℕ) × ((text ≡ []) ⊎ Begun p o form text) × Cut old [] new text

-- the load was watched to its end, or until it stopped short, and the counts are those of what happened; or they are
-- no longer known
abbrev pub Watches : Plan → Origin → Busyness → Result Ending Shortage → Type 0
Watches p o b (Ok ending.Served) =
    (hs : List Happening) × (t : State) × IsWatched p o hs t × IsDone p t.world t.served × AreCounted b hs
Watches p o b (Ok (ending.Short e)) =
    (hs : List Happening) × (t : State) × IsWatched p o hs t × AreCounted b hs
Watches p o b (Err e) = Unit {0}
