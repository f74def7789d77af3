-- The likely cause where all lines of a table's file are wrong in one way.
use Rattle.std.specs.Prelude.{ℕ, ◌==◌, Bool, true, false, not, ◌&&◌, List, [], ◌∷◌, Option, Some, None}
use Rattle.std.specs.Prelude.{if◌then◌else◌, codes}
use Rattle.std.specs.List.{list_any}
use Rattle.oe_fields.specs.declared.fields.Format.{Format}
use Rattle.oe_fields.specs.declared.fields.Format.TheVariants as format
use Rattle.oe_columns.specs.declared.headings.LayoutFault.TheVariants as layout
use Rattle.oe_sources.specs.declared.faults.SourceFault.{SourceFault}
use Rattle.oe_sources.specs.declared.faults.Wrong.{Wrong}
use Rattle.oe_sources.specs.declared.faults.Wrong.TheVariants as wrong
use Rattle.oe_file_audit.specs.declared.causes.Cause.{Cause}
use Rattle.oe_file_audit.specs.declared.causes.Cause.TheVariants as cause

-- the byte stands in the text
abbrev pub has : ℕ → List ℕ → Bool
has byte text = list_any (λ b. b == byte) text

-- the first line does not tell where the columns stand
abbrev pub is_layout : Wrong → Bool
is_layout (wrong.Layout l) = true
is_layout (wrong.Misfit m) = false
is_layout wrong.TooLong = false
is_layout wrong.PastEnd = false
is_layout (wrong.Miscount n) = false
is_layout wrong.NotEnded = false

-- a heading lacks a column
abbrev pub is_missing : Wrong → Bool
is_missing (wrong.Layout (layout.Missing n)) = true
is_missing (wrong.Layout (layout.Twice n)) = false
is_missing (wrong.Layout (layout.Fields n)) = false
is_missing (wrong.Misfit m) = false
is_missing wrong.TooLong = false
is_missing wrong.PastEnd = false
is_missing (wrong.Miscount n) = false
is_missing wrong.NotEnded = false

-- the field of that column does not spell what it has to
abbrev pub is_misfit : ℕ → Wrong → Bool
is_misfit column (wrong.Misfit m) = m.column == column
is_misfit column (wrong.Layout l) = false
is_misfit column wrong.TooLong = false
is_misfit column wrong.PastEnd = false
is_misfit column (wrong.Miscount n) = false
is_misfit column wrong.NotEnded = false

-- the first fault shows a zero byte, which each letter and digit has in UTF-16
abbrev pub is_utf16 : SourceFault → Bool
is_utf16 f = has 0 f.text

-- read with tabs, the first line shows commas, and no tab
abbrev pub has_commas : Format → SourceFault → Bool
has_commas format.Tabs f = is_layout f.wrong && has 44 f.text && not (has 9 f.text)
has_commas format.Commas f = false

-- the heading shows no underscore, which the name of each column has
abbrev pub names_none : SourceFault → Bool
names_none f = is_missing f.wrong && not (has 95 f.text)

-- the first three lines have each a misfit at one column
abbrev pub shifted_at : Wrong → SourceFault → SourceFault → Bool
shifted_at (wrong.Misfit m) g h = is_misfit m.column g.wrong && is_misfit m.column h.wrong
shifted_at (wrong.Layout l) g h = false
shifted_at wrong.TooLong g h = false
shifted_at wrong.PastEnd g h = false
shifted_at (wrong.Miscount n) g h = false
shifted_at wrong.NotEnded g h = false

abbrev pub are_shifted : List SourceFault → Bool
are_shifted [] = false
are_shifted (f ∷ []) = false
are_shifted (f ∷ g ∷ []) = false
are_shifted (f ∷ g ∷ h ∷ fs) = (f.line == 1 && g.line == 2 && h.line == 3) && shifted_at f.wrong g h

-- the first of these causes that the faults tell of
abbrev pub cause_of : Format → List SourceFault → Option Cause
cause_of format [] = None
cause_of format (f ∷ fs) =
    if is_utf16 f then Some cause.Utf16
    else if has_commas format f then Some cause.Commas
    else if names_none f then Some cause.Heading
    else if are_shifted (f ∷ fs) then Some cause.Order
    else None

abbrev pub cause_name : Cause → List ℕ
cause_name cause.Utf16 = codes "UTF-16"
cause_name cause.Commas = codes "commas: --csv?"
cause_name cause.Heading = codes "a heading that names no column"
cause_name cause.Order = codes "columns in another order?"
