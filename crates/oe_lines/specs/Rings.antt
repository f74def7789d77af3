-- The undo ring that a line opens.
use Rattle.std.specs.Prelude.{ℕ, List, [], ◌∷◌, Option, None, Some, codes}
use Rattle.std.specs.Option.{unwrap_or}
use Rattle.oe_rows.specs.declared.layouts.Layout.{Layout}
use Rattle.oe_rows.specs.declared.layouts.Layout.TheVariants.{WholeRows, ChangedColumns}
use Rattle.oe_lines.specs.declared.commands.RingChoice.{RingChoice}

-- the layout of records: whole rows where the line says none
abbrev pub layout_of : RingChoice → Layout
layout_of r = unwrap_or r.layout WholeRows

-- a layout's number
abbrev pub layout_word : Layout → List ℕ
layout_word WholeRows = codes "1"
layout_word ChangedColumns = codes "2"

abbrev pub layout_words : Option Layout → List (List ℕ)
layout_words None = []
layout_words (Some l) = layout_word l ∷ []
