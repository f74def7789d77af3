-- What the tables' type keeps of the numbers in keys.
use Rattle.std.specs.Prelude.{IsSome}
use Rattle.oe_rows.specs.declared.keys.Key.{Key}
use Rattle.oe_model.specs.Rows.{Rows, row_at}
use Rattle.oe_store.specs.Places.{IsNumbered}

-- the numbers in the key of each row are in their ranges
abbrev pub AreNumbered : Rows → Type 0
AreNumbered r = (k : Key) → IsSome (row_at r k) → IsNumbered k
