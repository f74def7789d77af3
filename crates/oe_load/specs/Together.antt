-- How a script begins: each terminal's first transaction begins before any of them goes on.
use Rattle.std.specs.Prelude.{◌≡◌, ◌≢◌, ℕ, zero, suc, ◌+◌, ◌≤◌, ◌<◌, List, [], ◌∷◌, ◌++◌}
use Rattle.oe_theory.specs.World.{bump}
use Rattle.oe_requests.specs.declared.requests.Request.{Request}
use Rattle.oe_requests.specs.declared.requests.Query.{Query}
use Rattle.oe_lines.specs.declared.commands.Command.{Command}
use Rattle.oe_lines.specs.declared.commands.Command.TheVariants as command
use Rattle.oe_lines.specs.declared.commands.MomentChoice.TheVariants as moment
use Rattle.oe_terms.specs.declared.plans.Plan.{Plan}
use Rattle.oe_terms.specs.declared.plans.Asked.{Asked}
use Rattle.oe_terms.specs.declared.plans.Asked.TheVariants as asked
use Rattle.oe_terms.specs.Plans.{asked_of}

-- it is a transaction, and no query
abbrev pub IsTransaction : Asked → Type 0
IsTransaction (asked.Transaction q) = Unit {0}
IsTransaction (asked.Query q) = ⊥

-- each terminal asks for some transaction
abbrev pub HasTransactions : Plan → Type 0
HasTransactions p = (t : ℕ) → 1 ≤ t → t ≤ p.numbers.terminals
    → (i : ℕ) × (i < p.numbers.requests) × IsTransaction (asked_of p t (p.first + i))

-- the terminals that begin before the first line that neither begins nor reads
abbrev pub first_begun : List Command → List ℕ
first_begun [] = []
first_begun (command.Begin t q ∷ cs) = t ∷ first_begun cs
first_begun (command.Read m q ∷ cs) = first_begun cs
first_begun (c ∷ cs) = []

-- the numbers from 1 to n
abbrev pub numbers_to : ℕ → List ℕ
numbers_to zero = []
numbers_to (suc n) = numbers_to n ++ suc n ∷ []

-- all terminals begin, in their order, before any transaction goes on: from then on all are open at once
abbrev pub BeginTogether : Plan → List Command → Type 0
BeginTogether p cs = (rest : List ℕ) × (first_begun cs ≡ numbers_to p.numbers.terminals ++ rest)

-- A line where the first `begun` terminals have begun, or have no transaction; it leaves the last number. The next one
-- begins or reads; where it has read its last, it has no transaction.
pub data Opens (p : Plan) (begun : ℕ) (served : ℕ → ℕ) : Command → (ℕ → ℕ) → ℕ → Type 0 where
  begins : (q : Request) → begun < p.numbers.terminals
      → Opens p begun served (command.Begin (suc begun) q) served (suc begun)
  reads : (q : Query) → begun < p.numbers.terminals
      → asked_of p (suc begun) (p.first + served (suc begun)) ≡ asked.Query q
      → suc (served (suc begun)) ≢ p.numbers.requests
      → Opens p begun served (command.Read moment.Now q) (bump (suc begun) served) begun
  reads_last : (q : Query) → begun < p.numbers.terminals
      → asked_of p (suc begun) (p.first + served (suc begun)) ≡ asked.Query q
      → suc (served (suc begun)) ≡ p.numbers.requests
      → Opens p begun served (command.Read moment.Now q) (bump (suc begun) served) (suc begun)
