-- The rows of earlier sources, and whether lines of sources have a fault.
use Rattle.std.specs.Prelude.{◌≡◌, ℕ, Bool, true, false, ◌||◌, nat_lt, List, [], ◌∷◌, length}
use Rattle.std.specs.Prelude.{Option, Some, None, unwrap_or}
use Rattle.oe_fields.specs.declared.fields.Format.{Format}
use Rattle.oe_columns.specs.declared.constants.Wanted.{Wanted}
use Rattle.oe_columns.specs.declared.constants.Wanted.TheVariants as wanted
use Rattle.oe_columns.specs.declared.prints.RowFact.{RowFact}
use Rattle.oe_sources.specs.Fault.{Told}
use Rattle.oe_earlier.specs.declared.compared.Compared.{Compared}
use Rattle.oe_earlier.specs.Keeping.{KeepsTraces, KeepsCompared}
use Rattle.oe_books.specs.declared.parts.Asked.{Asked}
use Rattle.oe_books.specs.declared.parts.Asked.TheVariants as asked
use Rattle.oe_file_audit.specs.declared.earlier.Earlier.{Earlier}
use Rattle.oe_file_audit.specs.declared.earlier.EarlierRead.{EarlierRead}
use Rattle.oe_file_audit.specs.declared.earlier.EarlierRead.TheVariants as read
use Rattle.oe_file_audit.specs.declared.reading.TableSource.{TableSource}
use Rattle.oe_file_audit.specs.declared.reading.Unread.{Unread}
use Rattle.oe_file_audit.specs.Reading.{prints_of, TablesSpell, StopsAt}

-- a fault was told
abbrev pub has_fault : Told → Bool
has_fault t = nat_lt 0 (length t.kept)

abbrev pub any_fault : List Told → Bool
any_fault [] = false
any_fault (t ∷ ts) = has_fault t || any_fault ts

-- which checks are made: those against earlier rows where there are any
abbrev pub asked_of : Option (List RowFact) → Asked
asked_of None = asked.Rows
asked_of (Some rows) = asked.Earlier

-- prints are wanted for these checks alone
abbrev pub wanted_by : Asked → Wanted
wanted_by asked.Rows = wanted.Facts
wanted_by asked.Earlier = wanted.Prints

-- what is kept is of these earlier rows, if there are any
pub record IsEarlier (rows : Option (List RowFact)) (e : Earlier) : Type 0 where
  pub asked : e.asked ≡ asked_of rows
  pub traces : KeepsTraces (prints_of (unwrap_or rows [])) e.traces

-- what is compared is of these earlier rows, if there are any, and of these rows
abbrev pub compared_with : Option (List RowFact) → List RowFact → Compared → Type 0
compared_with earlier rows c = KeepsCompared (prints_of (unwrap_or earlier [])) (prints_of rows) c

-- what earlier sources that spell these rows come to, by their faults
abbrev pub EarlierBy : List RowFact → List Told → EarlierRead → Type 0
EarlierBy rows told (read.Sound e) = (any_fault told ≡ false) × IsEarlier (Some rows) e
EarlierBy rows told (read.Faulty faults) = (any_fault told ≡ true) × (faults.items ≡ told)

module _ {S : Type 0} (remaining : S → Option (List ℕ)) (format : Format) where
  -- what earlier sources spell, where they are given
  abbrev pub EarlierSpells : Option (List (TableSource S)) → Option (List RowFact) → List Told → Type 0
  EarlierSpells None None told = told ≡ []
  EarlierSpells None (Some rows) told = ⊥
  EarlierSpells (Some sources) None told = ⊥
  EarlierSpells (Some sources) (Some rows) told = TablesSpell remaining wanted.Prints format sources rows told

  abbrev pub EarlierIsRead : Option (List (TableSource S)) → EarlierRead → Type 0
  EarlierIsRead before (read.Sound e) =
      (earlier : Option (List RowFact)) × (told : List Told) × EarlierSpells before earlier told
      × (any_fault told ≡ false) × IsEarlier earlier e
  EarlierIsRead before (read.Faulty faults) =
      (earlier : Option (List RowFact)) × EarlierSpells before earlier faults.items
      × (any_fault faults.items ≡ true)

-- one of the earlier sources was not read to its end, and it is named
abbrev pub StopsBefore : {S : Type 0} → Option (List (TableSource S)) → Unread → Type 0
StopsBefore None unread = ⊥
StopsBefore (Some sources) unread = StopsAt sources unread
