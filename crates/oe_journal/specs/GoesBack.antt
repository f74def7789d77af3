-- Records that can be put back one after another, the newest first.
use Rattle.std.specs.Prelude.{List, [], ◌∷◌}
use Rattle.oe_theory.specs.Undo.{unwind}
use Rattle.oe_model.specs.Rows.{Rows}
use Rattle.oe_model.specs.Changes.{Record, record_key, put_back}
use Rattle.oe_model.specs.Meets.{Meets}
use Rattle.oe_model.specs.System.{system}
use Rattle.oe_store.specs.Places.{Places, HasPlace}
use Rattle.oe_change.specs.PutBack.{Stands}

-- each finds the row that its change left, and the schema holds after each
abbrev pub CanUnwind : List Record → Rows → Type 0
CanUnwind [] r = Unit {0}
CanUnwind (b ∷ bs) r = Stands b r × Meets (put_back b r) × CanUnwind bs (put_back b r)

-- the records of commits can be unwound, by falling moment
abbrev pub CanUnwindAll : List (List Record) → Rows → Type 0
CanUnwindAll [] r = Unit {0}
CanUnwindAll (bs ∷ ss) r = CanUnwind bs r × CanUnwindAll ss (unwind system bs r)

-- each record's key has a place, so putting its row back takes no memory
abbrev pub HavePlaces : Places → List Record → Type 0
HavePlaces ts [] = Unit {0}
HavePlaces ts (b ∷ bs) = HasPlace ts (record_key b) × HavePlaces ts bs

-- the keys of commits' records have places
abbrev pub AllHavePlaces : Places → List (List Record) → Type 0
AllHavePlaces ts [] = Unit {0}
AllHavePlaces ts (bs ∷ ss) = HavePlaces ts bs × AllHavePlaces ts ss
