-- One turn of a load: a line more, or none where something is wanting.
use Rattle.std.specs.Prelude.{◌≡◌, ℕ, suc, ◌+◌, ◌==◌, if◌then◌else◌, List, ◌++◌, get_or, Some, Result, Ok, Err}
use Rattle.oe_theory.specs.World.{World, bump}
use Rattle.oe_model.specs.System.{system}
use Rattle.oe_requests.specs.declared.requests.Request.{Request}
use Rattle.oe_requests.specs.declared.requests.Query.{Query}
use Rattle.oe_lines.specs.declared.commands.Command.{Command}
use Rattle.oe_lines.specs.declared.commands.Command.TheVariants as command
use Rattle.oe_lines.specs.declared.commands.MomentChoice.TheVariants as moment
use Rattle.oe_lines.specs.Texts.{line_text}
use Rattle.rand_pcg.specs.Lcg.{Lcg}
use Rattle.oe_terms.specs.Draws.{random}
use Rattle.oe_terms.specs.declared.plans.Plan.{Plan}
use Rattle.oe_terms.specs.declared.plans.Asked.{Asked}
use Rattle.oe_terms.specs.declared.plans.Asked.TheVariants as asked
use Rattle.oe_terms.specs.Plans.{asked_of}
use Rattle.oe_busy.specs.declared.happenings.Happening.{Happening}
use Rattle.oe_busy.specs.declared.happenings.Happening.TheVariants as happening
use Rattle.oe_load.specs.declared.turns.Shortage.{Shortage}
use Rattle.oe_load.specs.Loads.{Told, IsNext, HasWords}
use Rattle.oe_load.specs.Happens.{Happens}
use Rattle.oe_load.specs.declared.loads.Drawing.{Drawing}
use Rattle.oe_load.specs.declared.picks.Pick.{Pick}
use Rattle.oe_load.specs.Picks.{holders_of}
use Rattle.oe_load.specs.Scripts.{State, Does, IsTurn}
use Rattle.oe_load.specs.Flats.{flat_text, turn_of}

-- how many requests of a terminal were served, in a list with a place for each number
abbrev pub counts_of : List ℕ → ℕ → ℕ
counts_of list t = get_or list t 0

-- where a load stands, by its arrays
abbrev pub state_of : World system → (ℕ → ℕ) → Drawing → State
state_of w f d = record { world = w; served = f; begun = d.begun; named = holders_of d.holders; words = d.words }

-- a line was told by which this pick takes its turn, and at which this happened; it stands behind the text
abbrev pub Tells : Plan → World system → (ℕ → ℕ) → Pick → List ℕ → Happening → World system → (ℕ → ℕ) → List ℕ
    → Type 0
Tells p w served k text h v after more =
    (c : Command) × Told p w served c v after × Happens w c v h × Does p w served k c after
    × (more ≡ text ++ line_text c)

-- that, or nothing was written
abbrev pub Turned : {E : Type 0} → Plan → World system → (ℕ → ℕ) → Pick → List ℕ → Result Happening E → World system
    → (ℕ → ℕ) → List ℕ → Type 0
Turned p w served k text (Ok h) v after more = Tells p w served k text h v after more
Turned p w served k text (Err e) v after more = more ≡ text

-- A terminal's next request was asked for: its transaction begins, or its query is answered; or nothing was written.
abbrev pub AsksNext : Plan → World system → (ℕ → ℕ) → ℕ → List ℕ → Result Happening Shortage → World system → (ℕ → ℕ)
    → List ℕ → Type 0
AsksNext p w served t text (Ok happening.Begun) v after more =
    (q : Request) × Told p w served (command.Begin t q) v after × (after ≡ served)
    × (more ≡ text ++ line_text (command.Begin t q))
AsksNext p w served t text (Ok happening.Done) v after more =
    (q : Query) × Told p w served (command.Read moment.Now q) v after
    × (asked_of p t (p.first + served t) ≡ asked.Query q) × (after ≡ bump t served)
    × (more ≡ text ++ line_text (command.Read moment.Now q))
AsksNext p w served t text (Ok (happening.Went x)) v after more = ⊥
AsksNext p w served t text (Ok (happening.Took x n m)) v after more = ⊥
AsksNext p w served t text (Ok (happening.Waits x n u)) v after more = ⊥
AsksNext p w served t text (Ok (happening.Broke x n)) v after more = ⊥
AsksNext p w served t text (Ok (happening.GaveWay x)) v after more = ⊥
AsksNext p w served t text (Err e) v after more = more ≡ text

-- How many terminals have begun after the next one's request was asked for. Where that was its last, and a query, it
-- has no transaction.
abbrev pub begun_after : Plan → ℕ → (ℕ → ℕ) → Happening → ℕ
begun_after p begun after happening.Begun = suc begun
begun_after p begun after happening.Done = if after (suc begun) == p.numbers.requests then suc begun else begun
begun_after p begun after (happening.Went x) = begun
begun_after p begun after (happening.Took x n m) = begun
begun_after p begun after (happening.Waits x n u) = begun
begun_after p begun after (happening.Broke x n) = begun
begun_after p begun after (happening.GaveWay x) = begun

-- the load told the line of whose turn it is, at which this happened; or it wrote nothing
abbrev pub Steps : Plan → State → List ℕ → Happening → State → List ℕ → Type 0
Steps p s text h t more = (c : Command) × IsTurn p s c h t × (more ≡ text ++ line_text c)

abbrev pub Took : {E : Type 0} → Plan → State → List ℕ → Result Happening E → State → List ℕ → Type 0
Took p s text (Ok h) t more = Steps p s text h t more
Took p s text (Err e) t more = more ≡ text

-- a terminal's next request was told
abbrev pub SendsOne : Plan → (ℕ → ℕ) → ℕ → List ℕ → (ℕ → ℕ) → List ℕ → Type 0
SendsOne p served t text after more =
    (a : Asked) × IsNext p served t a × HasWords a × (after ≡ bump t served) × (more ≡ text ++ flat_text t a)

-- that, or nothing was written
abbrev pub Sends : {T E : Type 0} → Plan → (ℕ → ℕ) → ℕ → List ℕ → Result T E → (ℕ → ℕ) → List ℕ → Type 0
Sends p served t text (Ok x) after more = SendsOne p served t text after more
Sends p served t text (Err e) after more = more ≡ text

-- the request of the terminal whose turn it is, or nothing
abbrev pub Turns : {T E : Type 0} → Plan → (ℕ → ℕ) → Lcg → List ℕ → Result T E → (ℕ → ℕ) → Lcg → List ℕ → Type 0
Turns p served g text (Ok x) after h more =
    (t : ℕ) × (turn_of p served g ≡ Some t) × (h ≡ (random 1 p.numbers.terminals g).1)
    × SendsOne p served t text after more
Turns p served g text (Err e) after h more = more ≡ text
