-- The lines of a load: each is answered, and by no refusal but `Busy`, and but an unused item's where orders have some.
use Rattle.std.specs.Prelude.{◌≡◌, ℕ, ◌+◌, ◌≤◌, ◌<◌, List, [], ◌∷◌, ◌++◌, length, None}
use Rattle.std.specs.Prelude.{codes, decimal}
use Rattle.std.specs.List.{flat_map}
use Rattle.oe_theory.specs.World.{World, newest, bump}
use Rattle.oe_theory.specs.Next.{Next, IsQuiet, Begin, Advance, Rollback, Read, Purge}
use Rattle.oe_theory.specs.Next.{Aborted, Begun, More, Committed, Busy, Rolled_back, Replied, Purged}
use Rattle.oe_rows.specs.declared.locks.Name.{Name}
use Rattle.oe_requests.specs.declared.requests.Request.{Request}
use Rattle.oe_requests.specs.declared.requests.Query.{Query}
use Rattle.oe_requests.specs.declared.refusals.Refusal.TheVariants.{InvalidItem}
use Rattle.oe_requests.specs.declared.replies.Reply.{Reply}
use Rattle.oe_requests.specs.declared.replies.QueryReply.{QueryReply}
use Rattle.oe_model.specs.Rows.{Rows}
use Rattle.oe_model.specs.Conditions.{IsPopulation}
use Rattle.oe_model.specs.Population.{IsPopulated}
use Rattle.oe_store.specs.Places.{rows}
use Rattle.oe_load.specs.declared.origins.Origin.{Origin}
use Rattle.oe_load.specs.declared.origins.Origin.TheVariants as origin
use Rattle.oe_model.specs.System.{system}
use Rattle.oe_lines.specs.declared.commands.Command.{Command}
use Rattle.oe_lines.specs.declared.commands.Command.TheVariants as command
use Rattle.oe_lines.specs.declared.commands.MomentChoice.TheVariants as moment
use Rattle.oe_model.specs.Requests.{IsRequest}
use Rattle.oe_lines.specs.Grammar.{HasForm, IsQuery}
use Rattle.oe_lines.specs.Texts.{line_text}
use Rattle.oe_numbers.specs.declared.forms.Form.{Form}
use Rattle.oe_numbers.specs.declared.forms.Form.TheVariants as load_form
use Rattle.oe_numbers.specs.declared.forms.Items.TheVariants.{AsDrawn}
use Rattle.oe_terms.specs.declared.plans.Plan.{Plan}
use Rattle.oe_terms.specs.declared.plans.Asked.{Asked}
use Rattle.oe_terms.specs.declared.plans.Asked.TheVariants as asked
use Rattle.oe_terms.specs.Plans.{asked_of}

-- it has a form in the grammar
abbrev pub HasWords : Asked → Type 0
HasWords (asked.Transaction q) = IsRequest q
HasWords (asked.Query q) = IsQuery q

-- Of terminal t, which has had `served t` of its requests served, this is the next request. Its first is the one of the
-- number `first`.
pub record IsNext (p : Plan) (served : ℕ → ℕ) (t : ℕ) (a : Asked) : Type 0 where
  pub low : 1 ≤ t
  pub high : t ≤ p.numbers.terminals
  pub left : served t < p.numbers.requests
  pub asks : asked_of p t (p.first + served t) ≡ a

-- A line asks for this in a world, and is answered without a refusal or by `Busy`; it leaves the last world. A commit
-- serves its terminal's request, and so does a reply to a query. Where orders are asked for as they are drawn, an order
-- may be rolled back for its unused item (clause 2.4.2.3); that serves its terminal's request too.
pub data Line (p : Plan) (w : World system) (served : ℕ → ℕ) : Command → World system → (ℕ → ℕ) → Type 0 where
  begins : (t : ℕ) (q : Request) (v : World system) → IsNext p served t (asked.Transaction q)
      → Next system w (Begin t q) Begun v → Line p w served (command.Begin t q) v served
  goes_on : (t : ℕ) (v : World system) → Next system w (Advance t) More v → Line p w served (command.Next t) v served
  waits : (t : ℕ) (n : Name) (u : ℕ) (v : World system) → Next system w (Advance t) (Busy n u) v
      → Line p w served (command.Next t) v served
  commits : (t m : ℕ) (y : Reply) (v : World system) → Next system w (Advance t) (Committed m y) v
      → Line p w served (command.Next t) v (bump t served)
  rolls_back : (t : ℕ) (v : World system) → p.items ≡ AsDrawn → Next system w (Advance t) (Aborted InvalidItem) v
      → Line p w served (command.Next t) v (bump t served)
  reads : (t : ℕ) (q : Query) (f : QueryReply) (v : World system) → IsNext p served t (asked.Query q)
      → Next system w (Read (newest system w) q) (Replied f) v
      → Line p w served (command.Read moment.Now q) v (bump t served)
  gives_way : (t : ℕ) (v : World system) → Next system w (Rollback t) Rolled_back v
      → Line p w served (command.Rollback t) v served
  purges : (m : ℕ) (v : World system) → Next system w (Purge (newest system w)) (Purged m) v
      → Line p w served (command.Purge moment.Now) v served

-- such a line, which has a form and at most 1,024 bytes before its end
pub record Told (p : Plan) (w : World system) (served : ℕ → ℕ) (c : Command) (v : World system) (after : ℕ → ℕ)
    : Type 0 where
  pub form : HasForm c
  pub short : length (line_text c) ≤ 1_025
  pub line : Line p w served c v after

-- nothing was served yet
abbrev pub none_served : ℕ → ℕ
none_served t = 0

-- what a load begins on: the population of its plan's scale, or tables that are a population
abbrev pub IsOrigin : Origin → Type 0
IsOrigin origin.Population = Unit {0}
IsOrigin (origin.Tables t) = IsPopulation (rows t)

abbrev pub Begins : Plan → Origin → Rows → Type 0
Begins p origin.Population r = IsPopulated p.numbers.scale r
Begins p (origin.Tables t) r = r ≡ rows t

-- each terminal has had all of its requests served
abbrev pub AreServed : Plan → (ℕ → ℕ) → Type 0
AreServed p served = (t : ℕ) → 1 ≤ t → t ≤ p.numbers.terminals → served t ≡ p.numbers.requests

-- all are served, and nothing is open
pub record IsDone (p : Plan) (w : World system) (served : ℕ → ℕ) : Type 0 where
  pub quiet : IsQuiet system w
  pub all : AreServed p served

-- the line that opens the population, and says no layout
abbrev pub opening : Plan → Command
opening p = command.Open p.numbers.scale (record { extents = p.numbers.extents; layout = None })

-- the line that says how many extents there are, and opens no population
abbrev pub ring_text : Plan → List ℕ
ring_text p = codes "open " ++ decimal p.numbers.extents ++ 10 ∷ []

-- The line before a load's others. A script on tables that are there has none, since it begins opened; its requests
-- alone have a line of the extents, as a file of replies that begins with a folder's population. A table has none.
abbrev pub opening_text : Plan → Origin → Form → List ℕ
opening_text p origin.Population load_form.Flat = line_text (opening p)
opening_text p origin.Population load_form.Script = line_text (opening p)
opening_text p origin.Population load_form.Busy = []
opening_text p (origin.Tables t) load_form.Flat = ring_text p
opening_text p (origin.Tables t) load_form.Script = []
opening_text p (origin.Tables t) load_form.Busy = []

-- the opening and these lines as text
abbrev pub script_text : Plan → Origin → List Command → List ℕ
script_text p o cs = opening_text p o load_form.Script ++ flat_map line_text cs
