-- Places for links that are given to the keys of tables when an engine is opened.
use Rattle.oe_rows.specs.declared.keys.Key.{Key}
use Rattle.oe_rows.specs.declared.keys.Table.{Table}
use Rattle.oe_store.specs.Places.{Places}
use Rattle.std.specs.List.{AllByRecursion}
use Rattle.oe_store.specs.KeyWalk.{placed_keys}
use Rattle.std.specs.Prelude.{⊤, Option, None, Some}
use Rattle.oe_undo.specs.Links.{LinkMaps, HasPlace, KeepsPlaces}

-- each key that has a place in the table has one for its link
abbrev pub IsLinked : Places → LinkMaps → Table → Type 0
IsLinked ts links t = AllByRecursion (HasPlace links) (placed_keys t ts)

-- a key that waits, if there is one, has a place for its link
abbrev pub HasWaiting : LinkMaps → Option Key → Type 0
HasWaiting links None = ⊤
HasWaiting links (Some k) = HasPlace links k

-- the waiting key, if there is one, has a place as soon as this key has
abbrev pub IsCovered : LinkMaps → Option Key → Key → Type 0
IsCovered links waiting next = (m : LinkMaps) → KeepsPlaces links m → HasPlace m next → HasWaiting m waiting
