-- Which keys have places for their links.
use Rattle.std.specs.Prelude.{◌≡◌}
use Rattle.oe_rows.specs.declared.keys.Key.{Key}
use Rattle.oe_rows.specs.declared.keys.Key.TheVariants as key
use Rattle.oe_store.specs.Places.{Places}
use Rattle.oe_store.specs.Places as tables
use Rattle.oe_model.specs.Changes.{Record, InsertedHistory}
use Rattle.oe_undo.specs.Links.{LinkMaps, HasPlace, GivesUpLink}
use Rattle.oe_undo.specs.Undo.{UndoState, link_seen}

-- rows of this key's table are changed; ITEM rows never are
abbrev pub MayChange : Key → Type 0
MayChange (key.Item k) = ⊥
MayChange _ = Unit {0}

-- Each key with a place in a table that is changed has a place for its link, a blanked one too. So only an insert at a
-- key without a place in its table takes memory for a link.
abbrev pub AreLinked : Places → LinkMaps → Type 0
AreLinked ts links = (k : Key) → MayChange k → tables.HasPlace ts k → HasPlace links k

-- each key leads where it led
abbrev pub SameLinks : UndoState → UndoState → Type 0
SameLinks old new = (k : Key) → link_seen new k ≡ link_seen old k

-- no key is given a place for its link, and where each key of the tables had one, each has
pub record StayLinked (ts ts' : Places) (old new : LinkMaps) : Type 0 where
  pub fewer : (k : Key) → HasPlace new k → HasPlace old k
  pub linked : AreLinked ts old → AreLinked ts' new

-- the empty place of an inserted HISTORY row's link is gone
abbrev pub GivesUpOwn : Record → LinkMaps → LinkMaps → Type 0
GivesUpOwn (InsertedHistory k v) old new = GivesUpLink old new (key.History k)
GivesUpOwn b old new = new ≡ old
