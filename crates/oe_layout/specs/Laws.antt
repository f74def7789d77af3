-- What the definitions of this crate promise.
use Rattle.std.specs.Prelude.{◌≡◌, length}
use Rattle.oe_rows.specs.declared.keys.Key.{Key}
use Rattle.oe_rows.specs.declared.rows.Row.{Row}
use Rattle.oe_image.specs.Keys.{key_image}
use Rattle.oe_image.specs.Rows.{row_image, IsRow}
use Rattle.oe_model.specs.Changes.{Record}
use Rattle.oe_model.specs.Lengths.{key_length, row_length, record_length}
use Rattle.oe_layout.specs.Records.{record_image, IsInRanges}
use Rattle.oe_layout.specs.declared.links.Previous.{Previous}

-- an image is as long as the sum of widths and lengths says
pub record Lengths_are_sums : Type 0 where
  pub keys : (k : Key) → length (key_image k) ≡ key_length k
  pub rows : (r : Row) → IsRow r → length (row_image r) ≡ row_length r
  pub records : (p : Previous) (b : Record) → IsInRanges b
      → length (record_image p b) ≡ record_length b
