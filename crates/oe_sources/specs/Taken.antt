-- What a ledger got, and which faults were told.
use Rattle.std.specs.Prelude.{◌≡◌, ℕ, List, [], ◌∷◌, ◌++◌, map, Option}
use Rattle.oe_facts.specs.declared.tables.Table.{Table}
use Rattle.oe_facts.specs.Table.{table_of}
use Rattle.oe_columns.specs.declared.prints.RowFact.{RowFact}
use Rattle.oe_columns.specs.Facts.{fact_values}
use Rattle.oe_columns.specs.Values.{Value}
use Rattle.oe_sources.specs.declared.faults.SourceFault.{SourceFault}
use Rattle.oe_sources.specs.declared.ledgers.Taken as taken
use Rattle.oe_sources.specs.Fault.{with_each_fault}
use Rattle.oe_sources.specs.Reading.{Says, Nothing, Row, Fault}

-- a row's table, the values of its columns, and its print
abbrev pub Spelled : Type 0
Spelled = Table × List Value × Option ℕ

abbrev pub spelling : RowFact → Spelled
spelling r = (table_of r.fact, fact_values r.fact, r.print)

abbrev pub rows_said : Says → List Spelled
rows_said Nothing = []
rows_said (Row t vs print) = (t, vs, print) ∷ []
rows_said (Fault w text) = []

abbrev pub faults_said : Table → ℕ → Says → List SourceFault
faults_said t n Nothing = []
faults_said t n (Row u vs print) = []
faults_said t n (Fault w text) = record { table = t; line = n; wrong = w; text = text } ∷ []

-- From the beginning on the ledger got, in order, exactly the facts and prints that these rows spell, and exactly these
-- faults were told.
pub record Got {L B : Type 0} (holds : B → L → List RowFact → Type 0) (start : taken.Taken L)
    (rows : List Spelled) (faults : List SourceFault) (now : taken.Taken L) : Type 0 where
  pub facts : List RowFact
  pub are : map spelling facts ≡ rows
  pub held : (begun : B) (before : List RowFact) → holds begun start.ledger before
      → holds begun now.ledger (before ++ facts)
  pub told : now.faults ≡ with_each_fault faults start.faults
